-- WHAT IS SAID FIRST SAYS EACH: that all hold is said exactly where no bound is passed, each value that is to be whole is, and no row is missed.
use Rattle.std.specs.Prelude.{ℕ, zero, suc, ◌<◌, ◌≡◌, refl, Bool, true, false, List, length, Float, Option, None, Some}
use Rattle.std.specs.Option.{option_or, unwrap_or}
use Rattle.std.proofs.Math.Decide.{ℕ_discrete}
use Rattle.std.proofs.Common.{arith, sym, ap, subst, ◌∙◌}
use Rattle.std.proofs.lemmas.Option.{none-some}
use Rattle.floats.specs.Num.{choose}
use Rattle.definition.specs.Model.{Model}
use Rattle.plan.specs.declared.Verdict.{Verdict}
use Rattle.plan.specs.declared.Verdict.TheVariants.{Lower, Upper, NotWhole, Row, AllHold}
use Rattle.plan.specs.Plan.{first, passes_lower, passes_upper, bound_passed, not_whole, whole_missed, misses, row_missed, verdict}

-- something is told
abbrev Told : Verdict → Type 0
Told (Lower v) = Unit {0}
Told (Upper v) = Unit {0}
Told (NotWhole v) = Unit {0}
Told (Row r) = Unit {0}
Told AllHold = ⊥

-- nothing, or something that is told
abbrev Tells : Option Verdict → Type 0
Tells None = Unit {0}
Tells (Some x) = Told x

-- ---- the first of some
nothing_each : (said : ℕ → Option Verdict) (n : ℕ) → first said n ≡ None → (v : ℕ) → v < n → said v ≡ None
unfolding first
nothing_each said zero e v l = absurd (omega arith)
nothing_each said (suc n) e v l = by (first said n) refl e (nothing_each said n)
  where
    by : (o : Option Verdict) → first said n ≡ o → option_or (first said n) (said n) ≡ None → (first said n ≡ None → (v : ℕ) → v < n → said v ≡ None) → said v ≡ None
    by None f e before =
        elim (ℕ_discrete v n) [
          | yes s ↦ ap said s ∙ (ap (λ (o : Option Verdict). option_or o (said n)) (sym f) ∙ e)
          | no s ↦ before f v (omega (arith, l, s))
        ]
    by (Some x) f e before = absurd (none-some x (sym (ap (λ (o : Option Verdict). option_or o (said n)) (sym f) ∙ e)))

each_nothing : (said : ℕ → Option Verdict) (n : ℕ) → ((v : ℕ) → v < n → said v ≡ None) → first said n ≡ None
unfolding first
each_nothing said zero h = refl
each_nothing said (suc n) h = ap (λ (o : Option Verdict). option_or o (said n)) (each_nothing said n (λ v l. h v (omega arith))) ∙ h n (omega arith)

first_tells : (said : ℕ → Option Verdict) (n : ℕ) → ((v : ℕ) → Tells (said v)) → Tells (first said n)
unfolding first
first_tells said zero h = tt
first_tells said (suc n) h = by (first said n) (said n) (first_tells said n h) (h n)
  where
    by : (a b : Option Verdict) → Tells a → Tells b → Tells (option_or a b)
    by None b s t = t
    by (Some x) b s t = s

-- ---- the three
none_of : (b w r : Option Verdict) → Tells b → Tells w → Tells r → unwrap_or (option_or b (option_or w r)) AllHold ≡ AllHold → (b ≡ None) × (w ≡ None) × (r ≡ None)
none_of (Some x) w r s t u e = absurd (subst Told e s)
none_of None (Some x) r s t u e = absurd (subst Told e t)
none_of None None (Some x) s t u e = absurd (subst Told e u)
none_of None None None s t u e = (refl, refl, refl)

-- a choice of something told, or of the rest
one_tells : (b : Bool) (x : Verdict) (rest : Option Verdict) → Told x → Tells rest → Tells (choose b (Some x) rest)
unfolding choose
one_tells true x rest t r = t
one_tells false x rest t r = r

one_none : (b : Bool) (x : Verdict) (rest : Option Verdict) → choose b (Some x) rest ≡ None → (b ≡ false) × (rest ≡ None)
unfolding choose
one_none true x rest e = absurd (none-some x (sym e))
one_none false x rest e = (refl, e)

none_left : {b : Bool} (x : Verdict) {rest : Option Verdict} → b ≡ false → rest ≡ None → choose b (Some x) rest ≡ None
unfolding choose
none_left x e f = rw e f

-- no bound is passed, no whole number is missed and no row
pub record AllKept (M : Model) (p : List Float) : Type 0 where
  pub lower : (v : ℕ) → v < length M.lower → passes_lower M p v ≡ false
  pub upper : (v : ℕ) → v < length M.lower → passes_upper M p v ≡ false
  pub whole : (v : ℕ) → v < length M.lower → not_whole M p v ≡ false
  pub rows : (r : ℕ) → r < length M.rhs → misses M p r ≡ false

module _ (M : Model) (p : List Float) where
  pub kept_all : verdict M p ≡ AllHold → AllKept M p
  unfolding verdict bound_passed whole_missed row_missed
  kept_all e =
      let n = length M.lower in
      let q = none_of (first (bound_passed M p) n) (first (whole_missed M p) n) (first (row_missed M p) (length M.rhs))
      (first_tells (bound_passed M p) n (λ v. one_tells (passes_lower M p v) _ _ tt (one_tells (passes_upper M p v) _ _ tt tt)))
      (first_tells (whole_missed M p) n (λ v. one_tells (not_whole M p v) _ _ tt tt))
      (first_tells (row_missed M p) (length M.rhs) (λ r. one_tells (misses M p r) _ _ tt tt)) e in
      let bound = λ (v : ℕ) (l : v < n). one_none (passes_lower M p v) _ _ (nothing_each (bound_passed M p) n q.0 v l) in
      record {
        lower = λ v l. (bound v l).0;
        upper = λ v l. (one_none (passes_upper M p v) _ _ (bound v l).1).0;
        whole = λ v l. (one_none (not_whole M p v) _ _ (nothing_each (whole_missed M p) n q.1 v l)).0;
        rows = λ r l. (one_none (misses M p r) _ _ (nothing_each (row_missed M p) (length M.rhs) q.2 r l)).0;
      }

  pub all_kept : AllKept M p → verdict M p ≡ AllHold
  unfolding verdict bound_passed whole_missed row_missed
  all_kept k =
      let n = length M.lower in
      let b : first (bound_passed M p) n ≡ None = each_nothing (bound_passed M p) n (λ v l. none_left _ (k.lower v l) (none_left _ (k.upper v l) refl)) in
      let w : first (whole_missed M p) n ≡ None = each_nothing (whole_missed M p) n (λ v l. none_left _ (k.whole v l) refl) in
      let r : first (row_missed M p) (length M.rhs) ≡ None = each_nothing (row_missed M p) (length M.rhs) (λ v l. none_left _ (k.rows v l) refl) in
      rw (b, w, r) refl
