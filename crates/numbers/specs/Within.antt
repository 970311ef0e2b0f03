-- What inner contracts ask for: a number is a category. Assumes nothing.
use Rattle.std.specs.Prelude.{ℕ, ◌≤◌}
use Rattle.numbers.specs.Categories.{category_limit}

abbrev pub Category : ℕ → Type 0
Category n = (1 ≤ n) × (n ≤ category_limit)
