-- One call of any function, as its caller knows it, and no more: it showed what is asked, and learnt what is ensured, of some arguments, a result and the
-- parameters' last values. Nothing here says what a function does: what is asked and learnt is read off each function's own clauses. Assumes nothing.
use Rattle.std.specs.Prelude.{ℕ, ◌≡◌, List, []}
use Rattle.std.specs.Borrow.{Bor, MutBor}
use contract.Lifetimes.{Lfts}
use contract.Monad.{fact}
use denote.Triple.Entry.{Args, Res}
use denote.Triple.Clauses.{Ended, Lasts, AtExit, at_exit}
use borrow.Fn.Claims.{AllOf}
use borrow.Fn.World.{World, Pr, In, Bounds}
use borrow.Fn.Read.{Read, no_know}
use Rattle.store.specs.Layout.{Store, store}
use Rattle.reports.specs.declared.Loader.{Loader}
use Rattle.load.specs.Loader.{Load, load}

-- ---- a contract, as its own clauses say it: its `requires` and its `ensures` at every model of the logic, and a reading of each, which is a list of plain
-- facts with a proof that whoever shows them has the `requires`, and that whoever has the `ensures` learns them

-- the facts are all there is: the clause holds nothing else, nothing has to be known before it is read, and whoever has it learns what whoever shows it owes
abbrev pub Whole : {base clause : (w : World) → Pr w} → Read base no_know clause → Type 2
Whole r = ((w : World) → r.held w ≡ []) × (r.wants ≡ []) × (r.owes ≡ r.tells)

pub record Contract : Type 3 where
  pub ended : Ended
  pub requires : (κs : Lfts ended.signature.lifetimes) → Args ended.signature κs → (w : World) → Pr w
  pub ensures : (κs : Lfts ended.signature.lifetimes) → Args ended.signature κs → Res ended.signature κs → AtExit ended κs → (w : World) → Pr w
  pub asks : (κs : Lfts ended.signature.lifetimes) (a : Args ended.signature κs) → Read (In ended.signature κs a) no_know (requires κs a)
  pub tells :
      (κs : Lfts ended.signature.lifetimes) (a : Args ended.signature κs) (r : Res ended.signature κs) (l : AtExit ended κs) →
      Read (λ w. fact w.𝓤 (Bounds ended.signature κs)) no_know (ensures κs a r l)
  pub all_asked : (κs : Lfts ended.signature.lifetimes) (a : Args ended.signature κs) → Whole (asks κs a)
  pub all_told : (κs : Lfts ended.signature.lifetimes) (a : Args ended.signature κs) (r : Res ended.signature κs) (l : AtExit ended κs) → Whole (tells κs a r l)

-- what its caller has to show, and what its caller learns
abbrev pub Asked : (c : Contract) (κs : Lfts c.ended.signature.lifetimes) → Args c.ended.signature κs → Type 0
Asked c κs a = AllOf (c.asks κs a).owes

abbrev pub Learnt : (c : Contract) (κs : Lfts c.ended.signature.lifetimes) → Args c.ended.signature κs → Res c.ended.signature κs → AtExit c.ended κs → Type 0
Learnt c κs a r l = AllOf (c.tells κs a r l).tells

pub record Called (c : Contract) : Type 0 where
  pub lifetimes : Lfts c.ended.signature.lifetimes
  pub args : Args c.ended.signature lifetimes
  pub asked : Asked c lifetimes args
  pub result : Res c.ended.signature lifetimes
  pub last : Lasts c.ended lifetimes args
  pub ensures : Learnt c lifetimes args result (at_exit c.ended lifetimes args last)

-- ---- the arguments and the last values by their places

abbrev pub first : {A B : Type 0} → A × B → A
first a = a.0

abbrev pub second : {A B C : Type 0} → A × (B × C) → B
second a = a.1.0

abbrev pub third : {A B C D : Type 0} → A × (B × (C × D)) → C
third a = a.1.1.0

abbrev pub fourth : {A B C D E : Type 0} → A × (B × (C × (D × E))) → D
fourth a = a.1.1.1.0

abbrev pub fifth : {A B C D E F : Type 0} → A × (B × (C × (D × (E × F)))) → E
fifth a = a.1.1.1.1.0

abbrev pub sixth : {A B C D E F G : Type 0} → A × (B × (C × (D × (E × (F × G))))) → F
sixth a = a.1.1.1.1.1.0

abbrev pub seventh : {A B C D E F G H : Type 0} → A × (B × (C × (D × (E × (F × (G × H)))))) → G
seventh a = a.1.1.1.1.1.1.0

-- the tables, which are the first three arguments, where all three are lent by `&`
abbrev pub lent : {A : Type 0} → Bor (List ℕ) × (Bor (List ℕ) × (Bor (List ℕ) × A)) → Store
lent a = store a.0.now a.1.0.now a.1.1.0.now

-- and where all three are lent by `&mut`: as the call begins, and after it
abbrev pub lent_mut : {A : Type 0} → MutBor (List ℕ) × (MutBor (List ℕ) × (MutBor (List ℕ) × A)) → Store
lent_mut a = store a.0.now a.1.0.now a.1.1.0.now

abbrev pub left : {A : Type 0} → List ℕ × (List ℕ × (List ℕ × A)) → Store
left l = store l.0 l.1.0 l.1.1.0

-- and with the line and the loader of a text, which are the next two
abbrev pub loading : {A : Type 0} → MutBor (List ℕ) × (MutBor (List ℕ) × (MutBor (List ℕ) × (MutBor (List ℕ) × (Loader × A)))) → Load
loading a = load (lent_mut a) a.1.1.1.0.now a.1.1.1.1.0

abbrev pub loaded : {A : Type 0} → List ℕ × (List ℕ × (List ℕ × (List ℕ × A))) → Loader → Load
loaded l loader = load (left l) l.1.1.1.0 loader
