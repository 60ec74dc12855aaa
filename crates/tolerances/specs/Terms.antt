-- A row's slack and its verdict, made of its terms one by one: `implied_slack` is a start, a step for each term and an end, and `row_violation` the verdict on what they give.
use Rattle.std.specs.Prelude.{◌≡◌, ℕ, Bool, true, false, not, ◌&&◌, List, [], ◌∷◌, length, Float}
use Rattle.std.proofs.Math.Path.{refl}
use Rattle.std.proofs.Common.{ap, ◌∙◌}
use Rattle.std.proofs.Math.Option.{Option, none, some}
use Rattle.floats.specs.Num.{choose}
use Rattle.cdouble.specs.declared.CDouble.{CDouble}
use Rattle.tolerances.specs.Tol.{Term, slack_min, slack_max, excursion, implied_from, implied_slack, trivial_verdict, says_true}
use Rattle.tolerances.specs.Tol.{violated, violation, row_start, row_term, row_slack, slack_violates, slack_violation}

-- the loop over the terms, from a sum so far
unfoldable pub row_from : (ℕ → Float) → CDouble × Float → List Term → CDouble × Float
row_from x s [] = s
row_from x s (t ∷ ts) = row_from x (row_term s t.coeff (x t.var)) ts

pub row_from_lem : (x : ℕ → Float) (s : CDouble × Float) (ts : List Term) → implied_from x s.0 s.1 ts ≡ row_from x s ts
unfolding implied_from row_from row_term
row_from_lem x s [] = refl
row_from_lem x s (t ∷ ts) = row_from_lem x (row_term s t.coeff (x t.var)) ts

pub slack_by_terms : (x : ℕ → Float) (b : Float) (ts : List Term) → implied_slack x b ts ≡ row_slack (row_from x (row_start b) ts)
slack_by_terms x b ts = made ∙ ap row_slack (row_from_lem x (row_start b) ts)
  where
    made : implied_slack x b ts ≡ row_slack (implied_from x (row_start b).0 (row_start b).1 ts)
    made = unfold implied_slack row_start row_slack in refl

pub violated_by_slack : (tol : Float) (op : ℕ) (ts : List Term) (b : Float) (x : ℕ → Float) → violated tol op ts b x
    ≡ (not (says_true (trivial_verdict tol op (length ts) b)) && slack_violates tol op (implied_slack x b ts))
unfolding violated slack_violates
violated_by_slack tol op ts b x = refl

pub violation_by_slack : (tol : Float) (op : ℕ) (ts : List Term) (b : Float) (x : ℕ → Float) → violation tol op ts b x
    ≡ choose (says_true (trivial_verdict tol op (length ts) b)) none (slack_violation tol op (implied_slack x b ts))
violation_by_slack tol op ts b x = made ∙ pick (says_true (trivial_verdict tol op (length ts) b)) (slack_violates tol op (implied_slack x b ts)) _ ∙ rest
  where
    pick : (p q : Bool) (r : Option Float) → choose (not p && q) r none ≡ choose p none (choose q r none)
    pick true q r = unfold choose in refl
    pick false q r = unfold choose in refl

    made : violation tol op ts b x ≡ choose (not (says_true (trivial_verdict tol op (length ts) b)) && slack_violates tol op (implied_slack x b ts))
        (some (excursion (implied_slack x b ts).0 (slack_min op) (slack_max op))) none
    made = unfold violation violated slack_violates in refl

    rest : choose (says_true (trivial_verdict tol op (length ts) b)) none
        (choose (slack_violates tol op (implied_slack x b ts)) (some (excursion (implied_slack x b ts).0 (slack_min op) (slack_max op))) none)
        ≡ choose (says_true (trivial_verdict tol op (length ts) b)) none (slack_violation tol op (implied_slack x b ts))
    rest = unfold slack_violation in refl
