-- What the search for a letter says of one of them; nobody has to believe it. Assumes nothing.
use Rattle.std.specs.Prelude.{ℕ, cond, eqb}
use Rattle.modes.specs.declared.Letter.{Letter}

-- the bit of a letter where a byte is that letter, and 0 where not
abbrev pub bit_where : ℕ → Letter → ℕ
bit_where small l = cond (eqb small l.letter) l.bit 0
