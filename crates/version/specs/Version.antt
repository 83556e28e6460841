-- The version of the interface: a number that grows when a call changes or comes.
use Rattle.std.specs.Prelude.{ℕ, ◌≡◌}

abbrev pub VersionGives : ℕ → Type 0
VersionGives r = r ≡ 4
