-- The code's two loops: the first that says something, and the row that is missed with the largest excursion.
use Rattle.std.proofs.Math.Decide.{ℕ_discrete}
use Rattle.std.specs.Prelude.{ℕ, zero, suc, ◌+◌, ◌≤◌, ◌<◌, ◌≡◌, refl, Bool, true, false, List, Float, Option, None, Some}
use Rattle.std.specs.Option.{option_or, is_some}
use Rattle.std.proofs.Math.Option as definition
use Rattle.std.proofs.Common.{add-one, arith, sym, ap, subst, ◌∙◌, true≢false}
use Rattle.floats.specs.Num.{choose, 0f, maxf}
use Rattle.tolerances.specs.Tol.{at, violated, violation}
use Rattle.definition.specs.Model.{Model, op_of, rhs_of, written}
use Rattle.plan.specs.declared.Verdict.{Verdict}
use Rattle.plan.specs.declared.Verdict.TheVariants.{NotWhole, Row}
use Rattle.plan.specs.declared.rows.Misses.{Misses}
use Rattle.plan.specs.Plan.{first, larger_of, largest, not_whole, whole_missed, misses, row_missed, excursion_at}

-- ---- A LOOP that ends at the first that says something
pub record Passed (said : ℕ → Option Verdict) (n i : ℕ) : Type 0 where
  pub within : i ≤ n
  pub none : first said i ≡ None

pub start : (said : ℕ → Option Verdict) (n : ℕ) → Passed said n 0
unfolding first
start said n = record { within = omega arith; none = refl }

pub turn : {said : ℕ → Option Verdict} {n i : ℕ} → Passed said n i → i < n → {o : Option Verdict} → o ≡ said i → is_some o ≡ false → Passed said n (i + 1)
unfolding first
turn {said} {n} {i} h l {o = None} e s = record { within = omega arith; none = rw add-one (ap (λ o. option_or o (said i)) h.none ∙ sym e) }
turn {said} {n} {i} h l {o = Some x} e s = absurd (true≢false s)

pub end : {said : ℕ → Option Verdict} {n i : ℕ} → Passed said n i → n ≤ i → None ≡ first said n
end {said} {n} {i} h l = let e : i ≡ n = omega (arith, h.within) in sym h.none ∙ ap (first said) e

-- what is said first below i is said first of any number from there on
later : (said : ℕ → Option Verdict) {x : Verdict} (i n : ℕ) → i ≤ n → first said i ≡ Some x → first said n ≡ Some x
unfolding first
later said i zero l e = let z : i ≡ 0 = omega arith in ap (first said) (sym z) ∙ e
later said i (suc n) l e =
    elim (ℕ_discrete i (suc n)) [
      | yes s ↦ ap (first said) (sym s) ∙ e
      | no s ↦ ap (λ o. option_or o (said n)) (later said i n (omega (arith, s)) e)
    ]

pub found : {said : ℕ → Option Verdict} {n i : ℕ} → Passed said n i → i < n → {o : Option Verdict} → o ≡ said i → is_some o ≡ true → o ≡ first said n
unfolding first
found {said} {n} {i} h l {o = None} e s = absurd (true≢false (sym s))
found {said} {n} {i} h l {o = Some x} e s = sym (later said (suc i) n (omega (arith, l)) (ap (λ o. option_or o (said i)) h.none ∙ sym e))

-- ---- A WALK over the rows
-- one row more, by its violation
unfoldable pub missed_by : Misses → ℕ → definition.Option Float → Misses
missed_by m r definition.none = m
missed_by m r (definition.some x) = record { first = option_or m.first (Some (Row r)); largest = maxf m.largest x }

-- the first n rows are walked
module _ (M : Model) (p : List Float) where
  pub record Walked (m : Misses) (n : ℕ) : Type 0 where
    pub first : m.first ≡ first (row_missed M p) n
    pub largest : m.largest ≡ largest (excursion_at M p) n

  pub begun : Walked (record { first = None; largest = 0f }) 0
  unfolding first largest
  begun = record { first = refl; largest = refl }

  or_none : (o : Option Verdict) → option_or o None ≡ o
  or_none None = refl
  or_none (Some x) = refl

  -- a row is missed where it has a violation
  one_more : (m : Misses) (n : ℕ) → Walked m n → Walked (missed_by m n (excursion_at M p n)) (suc n)
  unfolding first largest larger_of row_missed misses excursion_at violation missed_by choose
  one_more m n h = by (violated M.feas (op_of M n) (written M n) (rhs_of M n) (at p)) refl
    where
      by : (b : Bool) → violated M.feas (op_of M n) (written M n) (rhs_of M n) (at p) ≡ b → Walked (missed_by m n (excursion_at M p n)) (suc n)
      by true e = record { first = rw e (ap (λ (o : Option Verdict). option_or o (Some (Row n))) h.first); largest = rw e (rw h.largest refl) }
      by false e = record { first = rw e (h.first ∙ sym (or_none (first (row_missed M p) n))); largest = rw e h.largest }

pub walked : {M : Model} {p : List Float} {m m' : Misses} {n : ℕ} {v : definition.Option Float} → Walked M p m n → v ≡ excursion_at M p n → m' ≡ missed_by m n v
    → Walked M p m' (n + 1)
walked {M} {p} {m} {m'} {n} {v} h e f =
    let k : suc n ≡ n + 1 = omega arith in
    subst (λ (x : Misses). Walked M p x (n + 1)) (sym (f ∙ ap (missed_by m n) e)) (subst (Walked M p (missed_by m n (excursion_at M p n))) k (one_more M p m n h))

pub all_walked : {M : Model} {p : List Float} {m : Misses} {n i : ℕ} → Walked M p m i → i ≡ n → Walked M p m n
all_walked {M} {p} {m} h e = subst (Walked M p m) e h

-- ---- a value that is to be whole
module _ (M : Model) (p : List Float) (v : ℕ) {b : Bool} (e : b ≡ not_whole M p v) where
  pub not_whole_said : b ≡ true → Some (NotWhole v) ≡ whole_missed M p v
  unfolding whole_missed choose
  not_whole_said t = rw (sym e ∙ t) refl

  pub whole_said : b ≡ false → None ≡ whole_missed M p v
  unfolding whole_missed choose
  whole_said t = rw (sym e ∙ t) refl
