-- What the functions within the library say of words and bytes; nobody has to believe this. Assumes nothing.
use Rattle.std.specs.Prelude.{ℕ, ◌+◌, ◌*◌, ◌/◌, ◌%◌, ◌^◌, List, get_or}
use Rattle.numbers.specs.declared.CategorySet.{CategorySet}

-- eight bytes from an index on as one number, the highest first
unfoldable pub word_from : List ℕ → ℕ → ℕ
word_from b i =
    get_or b i 0 * 2 ^ 56
    + get_or b (i + 1) 0 * 2 ^ 48
    + get_or b (i + 2) 0 * 2 ^ 40
    + get_or b (i + 3) 0 * 2 ^ 32
    + get_or b (i + 4) 0 * 2 ^ 24
    + get_or b (i + 5) 0 * 2 ^ 16
    + get_or b (i + 6) 0 * 2 ^ 8
    + get_or b (i + 7) 0

-- the number of a set's three words one bit further down
unfoldable pub halved : CategorySet → CategorySet
halved s = record {
  first = s.first / 2;
  second = s.first % 2 * 2 ^ 63 + s.second / 2;
  third = s.second % 2 * 2 ^ 63 + s.third / 2;
}
