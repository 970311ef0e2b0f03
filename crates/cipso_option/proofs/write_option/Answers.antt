-- By what is looked up.
use Rattle.std.proofs.Common.{List, ℕ, ◌≡◌, length, refl, sym, ap, ◌∙◌, arith, Option, None, Result, Ok}
use Rattle.std.proofs.lemmas.Result.{err_from_is_err_and}
use borrow.Author.Tests.{le-leb, lt-leb}
use Rattle.refusals.specs.Refusals.{not_in_an_option}
use Rattle.refusals.specs.declared.Refusal.{Refusal}
use Rattle.output.specs.Output.{Text, text, refused, text_answer, text_out}
use Rattle.lookups.specs.declared.Cipso.{Cipso}
use Rattle.store.specs.Layout.{Store}
use Rattle.lookups.specs.Lookups.{by_label_of}
use Rattle.cipso_option.specs.Option.{option_of, option_by, option_given, option_answer, option_out}
use Rattle.cipso_option.proofs.Laws.{option_given_lem}
use Rattle.cipso_option.proofs.write_option.Goals as goal

module _ (st : Store) (name out : List ℕ) {x : Result (Option Cipso) Refusal} {t : Text} (found : x ≡ by_label_of st name) (shows : option_by name x ≡ t) where
  given : t ≡ option_given st name
  given = sym shows ∙ ap (option_by name) found ∙ sym (option_given_lem st name)

  value : text_answer t out ≡ option_answer st name out
  unfolding option_answer
  value = ap (λ (y : Text). text_answer y out) given

  out_after : text_out t out ≡ option_out st name out
  unfolding option_out
  out_after = ap (λ (y : Text). text_out y out) given

pub returns-in_err-mapped : goal.returns-in_err-mapped
returns-in_err-mapped c =
    let p = err_from_is_err_and c.from_residual.result c.from_residual.ensures.1 in
    let v = value _ c.args.label.now c.args.out.now c.in_err-mapped.ensures refl in
    let o = out_after _ c.args.label.now c.args.out.now c.in_err-mapped.ensures refl in
    record { value = rw (p.1, p.2) v; out_after = o }

pub returns-in-Some : goal.returns-in-Some
returns-in-Some c =
    let f = rw c.in-Some.is at c.in_ok-mapped.ensures in
    record {
      value = c.put_option.ensures.value ∙ value _ c.args.label.now c.args.out.now f refl;
      out_after = c.put_option.ensures.out_after ∙ out_after _ c.args.label.now c.args.out.now f refl;
    }

pub returns-then-label-gt-OWN_LONGEST : goal.returns-then-label-gt-OWN_LONGEST
returns-then-label-gt-OWN_LONGEST c =
    let n = c.args.label.now in
    let f = rw c.in_default.is at c.in_ok-mapped.ensures in
    let e : option_by n (Ok None) ≡ refused not_in_an_option = rw (lt-leb (length n) 23 (omega arith)) in
    record { value = value _ n c.args.out.now f e; out_after = out_after _ n c.args.out.now f e }

pub returns : goal.returns
returns c =
    let n = c.args.label.now in
    let f = rw c.in_default.is at c.in_ok-mapped.ensures in
    let e : option_by n (Ok None) ≡ text (option_of 250 c.set_of_own.result) = rw (le-leb (length n) 23 (omega arith), c.set_of_own.ensures) in
    record {
      value = c.put_option-2.ensures.value ∙ value _ n c.args.out.now f e;
      out_after = c.put_option-2.ensures.out_after ∙ out_after _ n c.args.out.now f e;
    }
