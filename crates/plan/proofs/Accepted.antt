-- AN ACCEPTED CALL of a plan: no row of its table applies, so that the lists fit each other and each row's terms are in the lists of terms.
use Rattle.std.specs.Prelude.{ℕ, ◌≡◌, Bool, true, false, not, ◌||◌, List, ◌∷◌, eqb, length, Float}
use Rattle.std.proofs.Common.{◌∙◌, sym, refl}
use Rattle.std.proofs.Math.Option.{none, none-ne-some}
use Rattle.floats.specs.Num.{choose}
use Rattle.definition.specs.Model.{Model}
use Rattle.definition.specs.Refusal.{vars, lengths_disagree, too_large, starts_wrong, indices_wrong, rows_long, codes_wrong, bounds_wrong}
use Rattle.definition.specs.Refusal.{numbers_wrong, rhses_wrong, tolerances_wrong, shortest, earliest, refusal}
use Rattle.definition.proofs.Edges.{shortest_enough}
use borrow.Author.Tests.{eqb-true, not-false}
use Rattle.refuse.specs.Rows.{neither, lengths_agree}
use Rattle.plan.specs.Accepted.{Accepted}
use Rattle.plan.specs.Refusal.{length_wrong, values_wrong, plan_refusal}

-- the table's first row does not apply, nor does one after it
next : (n : ℕ) (b : Bool) (cs : List (ℕ × Bool)) → earliest ((n, b) ∷ cs) ≡ none → (b ≡ false) × (earliest cs ≡ none)
unfolding earliest choose
next n true cs e = absurd (none-ne-some n (sym e))
next n false cs e = (refl, e)

-- what each row says, of a table that does not apply
pub record Rows (M : Model) (p : List Float) : Type 0 where
  pub lengths : (lengths_disagree M || length_wrong M p) ≡ false
  pub sizes : too_large M ≡ false
  pub starts : starts_wrong M ≡ false
  pub indices : indices_wrong M ≡ false
  pub long : rows_long M ≡ false
  pub codes : codes_wrong M ≡ false
  pub bounds : bounds_wrong M ≡ false
  pub numbers : (numbers_wrong M || values_wrong M p) ≡ false
  pub rhses : rhses_wrong M ≡ false
  pub tolerances : tolerances_wrong M ≡ false

rows : (M : Model) (p : List Float) → plan_refusal M p ≡ none → Rows M p
unfolding plan_refusal
rows M p e =
    let r1 = next 1 _ _ e in
    let r2 = next 2 _ _ r1.1 in
    let r3 = next 3 _ _ r2.1 in
    let r4 = next 4 _ _ r3.1 in
    let r18 = next 18 _ _ r4.1 in
    let r5 = next 5 _ _ r18.1 in
    let r6 = next 6 _ _ r5.1 in
    let r7 = next 7 _ _ r6.1 in
    let r8 = next 8 _ _ r7.1 in
    let r9 = next 9 _ _ r8.1 in
    record {
      lengths = r1.0;
      sizes = r2.0;
      starts = r3.0;
      indices = r4.0;
      long = r18.0;
      codes = r5.0;
      bounds = r6.0;
      numbers = r7.0;
      rhses = r8.0;
      tolerances = r9.0;
    }

pub accepted : (M : Model) (p : List Float) → plan_refusal M p ≡ none → Accepted M p
unfolding length_wrong
accepted M p e =
    let r = rows M p e in
    let l = neither (lengths_disagree M) (not (eqb (length p) (vars M))) r.lengths in
    let a = lengths_agree M l.0 in
    record { lengths = a; values = eqb-true (length p) (vars M) (not-false (eqb (length p) (vars M)) l.1) ∙ sym a.lower; starts = r.starts }

-- so its model is accepted by presolve, with the shortest slices
pub accepted_model : (M : Model) (p : List Float) → plan_refusal M p ≡ none → refusal M (shortest M) ≡ none
unfolding refusal earliest choose
accepted_model M p e =
    let r = rows M p e in
    let l = (neither (lengths_disagree M) (length_wrong M p) r.lengths).0 in
    let n = (neither (numbers_wrong M) (values_wrong M p) r.numbers).0 in
    rw (l, r.sizes, r.starts, r.indices, r.long, r.codes, r.bounds, n, r.rhses, r.tolerances, shortest_enough M) refl
