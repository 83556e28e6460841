-- `ticket::sale_on` meets its contract: the date is none, or the day's number is a day of the calendar.
use Rattle.boarding.specs.Answers.{numbered_sold}
use Rattle.ticket.proofs.TicketLaws.{date_none, date_day, date_small, sale_no_date, sale_day}
use Rattle.ticket.proofs.sale_on.Goals as goal

pub on_day-requires : goal.on_day-requires
on_day-requires c =
    let a = c.args in
    let p = c.requires in
    (date_small a.day a.month a.year c.day_of.ensures _ c.in-Some.is, p.0, p.1, p.2, p.3, p.4, p.5, p.6)

pub returns-in-Some : goal.returns-in-Some
returns-in-Some c =
    let a = c.args in
    sale_day _ _ _ _ _ _ _ _ _ _ _ _ _ _ (date_day a.day a.month a.year c.day_of.ensures _ c.in-Some.is) c.on_day.ensures

pub returns-in-None : goal.returns-in-None
unfolding numbered_sold
returns-in-None c =
    let a = c.args in
    sale_no_date _ _ _ _ _ _ _ _ _ _ _ _ _ _ (date_none a.day a.month a.year c.day_of.ensures c.in-None.is)
