pub mod FirstLaws
pub mod ViewOfSale
pub mod TicketLaws
