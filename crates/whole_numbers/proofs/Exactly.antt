-- NO CONDITION FAILS EXACTLY WHERE THE MODEL IS 01's FARM MODEL: `whole_exactly`; and nothing is told exactly where, besides, its objective is whole:
-- `told_exactly`. What is told of 1 to 7 is the fault of 01's conditions (`told_fault`); where 8 is told, the model is a farm model (`objective_told`).
-- And a fault that is found is one: its condition fails at its place, nowhere before it, and every condition before it holds: that is the definition's
-- own text (`earliest_fault`, `first`).
use Prim.Native.Nat.{ℕ, zero, suc, ◌≤◌, ◌<◌}
use Rattle.std.proofs.Common.{arith, sym, ap, subst, ◌∙◌, inl, inr, eqb→eq, leb→le, le→leb}
use Rattle.std.specs.Prelude.{◌≡◌, ◌⊎◌, ◌↔◌, Bool, true, false, not, ◌&&◌, ◌||◌, List, [], ◌∷◌, ◌++◌, T, ltb, leb, get_or, Float}
use Rattle.std.proofs.Math.Path.{refl}
use Rattle.std.proofs.Math.Option.{Option, none, some, or_else, none-ne-some, some-injective}
use mathlib.Mathlib.Data.Option.Basic.{or_else-eq-none, or_else-eq-some}
use Rattle.std.proofs.Math.Dec.{eqb, eqb_refl}
use Rattle.std.specs.Float.{binary64}
use Rattle.std.specs.Float.Ieee.{fits, le}
use borrow.Author.Tests.{ltb-false, le-ltb}
use Rattle.floats.specs.Num.{0f}
use Rattle.floats.specs.Zed.{A}
use Rattle.floats.specs.Points.{int, is_whole, Whole, Bounded}
use Rattle.tolerances.specs.Tol.{at}
use Rattle.definition.specs.Model.{Model, from, upto, nnz, rhs_of}
use Rattle.definition.specs.Choices.{chosen, left, not_not}
use Rattle.definition.specs.Tests.{or, or_intro, and, all_true}
use Rattle.rows_kept.specs.Statements.{All, no_one, each}
use Rattle.points_kept.specs.Statements.{HUNDREDTH, Tolerance, WholeNumbers}
use Rattle.best_kept.specs.Objective.{WholeObjective}
use Rattle.whole_numbers.specs.Fault.{first, whole_within, tolerable, domain_off, bounds_off, number_off, row_long, tolerance_off, mode_off, objective_off}
use Rattle.whole_numbers.specs.Fault.{Condition, conditions, objective, earliest_fault, fault, told}
use Rattle.whole_numbers.specs.First.{none_pass, past_end}
use Rattle.whole_numbers.specs.Exactly.{Holds}

-- ---- the list of conditions
pub all_hold : (cs : List Condition) → earliest_fault cs ≡ none → All Holds cs
unfolding earliest_fault
all_hold [] e = no_one
all_hold (c ∷ cs) e = go (ltb (first c.fails c.places 0) c.places) refl (all_hold cs)
  where
    go : (b : Bool) → ltb (first c.fails c.places 0) c.places ≡ b → (earliest_fault cs ≡ none → All Holds cs) → All Holds (c ∷ cs)
    go true q later = absurd (let s = sym (chosen _ _ q) ∙ e in let z : ◌≡◌ {A = ℕ} 0 1 = cc in omega arith)
    go false q later =
        each {x = c} (λ i h. none_pass c.fails c.places 0 (omega (arith, ltb-false (first c.fails c.places 0) c.places q)) i (omega arith) (omega (arith, h)))
        (later (sym (left _ _ q) ∙ e))

pub no_fault : (cs : List Condition) → All Holds cs → earliest_fault cs ≡ none
unfolding earliest_fault
no_fault [] no_one = refl
no_fault (c ∷ cs) (each h hs) =
    let e = past_end c.fails c.places 0 (λ i a b. h i (omega arith)) in
    left _ _ (le-ltb (first c.fails c.places 0) c.places (omega (arith, e))) ∙ no_fault cs hs

-- the fault of two lists, one after the other
pub after : (cs ds : List Condition) → earliest_fault (cs ++ ds) ≡ or_else (earliest_fault cs) (earliest_fault ds)
unfolding earliest_fault or_else
after [] ds = refl
after (c ∷ cs) ds = go (ltb (first c.fails c.places 0) c.places) refl (after cs ds)
  where
    go : (b : Bool) → ltb (first c.fails c.places 0) c.places ≡ b → earliest_fault (cs ++ ds) ≡ or_else (earliest_fault cs) (earliest_fault ds)
        → earliest_fault ((c ∷ cs) ++ ds) ≡ or_else (earliest_fault (c ∷ cs)) (earliest_fault ds)
    go true q later = chosen _ _ q ∙ sym (ap (λ (o : Option (ℕ × ℕ)). or_else o (earliest_fault ds)) (chosen _ (earliest_fault cs) q))
    go false q later = left _ _ q ∙ later ∙ sym (ap (λ (o : Option (ℕ × ℕ)). or_else o (earliest_fault ds)) (left _ (earliest_fault cs) q))

-- a fault's number is that of one of the conditions
pub numbered : (P : ℕ → Type 0) (cs : List Condition) → All (λ (c : Condition). P c.number) cs → (f : ℕ × ℕ) → earliest_fault cs ≡ some f → P f.0
unfolding earliest_fault
numbered P [] no_one f e = absurd (none-ne-some _ e)
numbered P (c ∷ cs) (each p ps) f e = go (ltb (first c.fails c.places 0) c.places) refl (numbered P cs ps f)
  where
    go : (b : Bool) → ltb (first c.fails c.places 0) c.places ≡ b → (earliest_fault cs ≡ some f → P f.0) → P f.0
    go true q later = subst (λ (g : ℕ × ℕ). P g.0) (some-injective _ _ (sym (chosen _ _ q) ∙ e)) p
    go false q later = later (sym (left _ _ q) ∙ e)

-- ---- one condition
pub passed : (b : Bool) → not b ≡ false → T b
passed b e = subst T (sym (not_not b e)) tt

pub fails_not : (b : Bool) → T b → not b ≡ false
fails_not true t = refl
fails_not false t = absurd t

pub either : (d a b : ℕ) → T (eqb d a || eqb d b) → (d ≡ a) ⊎ (d ≡ b)
either d a b t = elim (or (eqb d a) (eqb d b) t) [ inl p ↦ inl (eqb→eq d a p) | inr p ↦ inr (eqb→eq d b p) ]

pub one_of : (d a b : ℕ) → (d ≡ a) ⊎ (d ≡ b) → T (eqb d a || eqb d b)
one_of d a b (inl e) = or_intro (eqb d a) (eqb d b) (inl (subst (λ (k : ℕ). T (eqb d k)) e (eqb_refl d)))
one_of d a b (inr e) = or_intro (eqb d a) (eqb d b) (inr (subst (λ (k : ℕ). T (eqb d k)) e (eqb_refl d)))

pub bounded : (k : ℕ) (x : Float) → T (whole_within k x) → Bounded k x
unfolding whole_within
bounded k x t = let p = and (is_whole x) (leb (A (int x)) k) t in record { whole = record { whole = p.0 }; small = leb→le (A (int x)) k p.1 }

pub within : (k : ℕ) (x : Float) → Bounded k x → T (whole_within k x)
unfolding whole_within
within k x b = all_true (is_whole x) (leb (A (int x)) k) b.whole.whole (le→leb (A (int x)) k b.small)

pub tolerance : (x : Float) → T (tolerable x) → Tolerance x
unfolding tolerable
tolerance x t =
    let p = and (fits binary64 x) (le 0f x && le x HUNDREDTH) t in
    let q = and (le 0f x) (le x HUNDREDTH) p.1 in
    record { held = record { fits = p.0 }; low = record { le = q.0 }; high = record { le = q.1 } }

pub tolerated : (x : Float) → Tolerance x → T (tolerable x)
unfolding tolerable
tolerated x t = all_true (fits binary64 x) (le 0f x && le x HUNDREDTH) t.held.fits (all_true (le 0f x) (le x HUNDREDTH) t.low.le t.high.le)

-- ---- each condition, both ways
pub domain_in : (ds : List ℕ) (v : ℕ) → domain_off ds v ≡ false → (get_or ds v 0 ≡ 0) ⊎ (get_or ds v 0 ≡ 2)
unfolding domain_off
domain_in ds v e = either (get_or ds v 0) 0 2 (passed (eqb (get_or ds v 0) 0 || eqb (get_or ds v 0) 2) e)

pub domain_out : (ds : List ℕ) (v : ℕ) → (get_or ds v 0 ≡ 0) ⊎ (get_or ds v 0 ≡ 2) → domain_off ds v ≡ false
unfolding domain_off
domain_out ds v h = fails_not (eqb (get_or ds v 0) 0 || eqb (get_or ds v 0) 2) (one_of (get_or ds v 0) 0 2 h)

pub bounds_in : (ls us : List Float) (v : ℕ) → bounds_off ls us v ≡ false → Bounded 1048576 (at ls v) × Bounded 1048576 (at us v)
unfolding bounds_off
bounds_in ls us v e =
    let l = whole_within 1048576 (at ls v) in
    let u = whole_within 1048576 (at us v) in
    let p = and l u (passed (l && u) e) in
    (bounded 1048576 (at ls v) p.0, bounded 1048576 (at us v) p.1)

pub bounds_out : (ls us : List Float) (v : ℕ) → Bounded 1048576 (at ls v) → Bounded 1048576 (at us v) → bounds_off ls us v ≡ false
unfolding bounds_off
bounds_out ls us v a b =
    let l = whole_within 1048576 (at ls v) in
    let u = whole_within 1048576 (at us v) in
    fails_not (l && u) (all_true l u (within 1048576 (at ls v) a) (within 1048576 (at us v) b))

pub number_in : (k : ℕ) (xs : List Float) (i : ℕ) → number_off k xs i ≡ false → Bounded k (at xs i)
unfolding number_off
number_in k xs i e = bounded k (at xs i) (passed (whole_within k (at xs i)) e)

pub number_out : (k : ℕ) (xs : List Float) (i : ℕ) → Bounded k (at xs i) → number_off k xs i ≡ false
unfolding number_off
number_out k xs i b = fails_not (whole_within k (at xs i)) (within k (at xs i) b)

pub objective_in : (obj : List Float) (v : ℕ) → objective_off obj v ≡ false → Whole (at obj v)
unfolding objective_off
objective_in obj v e = record { whole = passed (is_whole (at obj v)) e }

pub objective_out : (obj : List Float) (v : ℕ) → Whole (at obj v) → objective_off obj v ≡ false
unfolding objective_off
objective_out obj v w = fails_not (is_whole (at obj v)) w.whole

-- ---- THE THEOREMS
module _ (M : Model) where
  pub long_in : (r : ℕ) → row_long M.starts r ≡ false → nnz M r ≤ 256
  unfolding row_long nnz from upto
  long_in r e = ltb-false 256 (nnz M r) e

  pub long_out : (r : ℕ) → nnz M r ≤ 256 → row_long M.starts r ≡ false
  unfolding row_long nnz from upto
  long_out r h = le-ltb 256 (nnz M r) h

  pub whole : All Holds (conditions M) → WholeNumbers M
  unfolding conditions tolerance_off mode_off rhs_of
  whole (each d (each b (each c (each r (each l (each t (each m no_one))))))) =
      record {
        integral = λ v h. domain_in M.domain v (d v h);
        lower = λ v h. (bounds_in M.lower M.upper v (b v h)).0;
        upper = λ v h. (bounds_in M.lower M.upper v (b v h)).1;
        coeff = λ k h. number_in 32768 M.coeff k (c k h);
        rhs = λ k h. number_in 1099511627776 M.rhs k (r k h);
        terms = λ k h. long_in k (l k h);
        feas = tolerance M.feas (passed (tolerable M.feas) (t 0 (omega arith)));
        int_tol = tolerance M.int_tol (passed (tolerable M.int_tol) (t 1 (omega arith)));
        mode = either M.mode 1 2 (passed (eqb M.mode 1 || eqb M.mode 2) (m 0 (omega arith)));
      }

  pub tolerances : WholeNumbers M → (i : ℕ) → i < 2 → tolerance_off M.feas M.int_tol i ≡ false
  unfolding tolerance_off
  tolerances w zero h = fails_not (tolerable M.feas) (tolerated M.feas w.feas)
  tolerances w (suc i) h = fails_not (tolerable M.int_tol) (tolerated M.int_tol w.int_tol)

  pub holds : WholeNumbers M → All Holds (conditions M)
  unfolding conditions mode_off rhs_of
  holds w =
      each (λ v h. domain_out M.domain v (w.integral v h))
      (each (λ v h. bounds_out M.lower M.upper v (w.lower v h) (w.upper v h))
      (each (λ k h. number_out 32768 M.coeff k (w.coeff k h))
      (each (λ k h. number_out 1099511627776 M.rhs k (w.rhs k h))
      (each (λ k h. long_out k (w.terms k h))
      (each (tolerances w)
      (each (λ k h. fails_not (eqb M.mode 1 || eqb M.mode 2) (one_of M.mode 1 2 w.mode)) no_one))))))

  pub whole_exactly : (fault M ≡ none) ↔ WholeNumbers M
  unfolding fault
  whole_exactly = (λ e. whole (all_hold (conditions M) e), λ w. no_fault (conditions M) (holds w))

  -- ---- and the objective, after them
  pub whole_objective : All Holds (objective M ∷ []) → WholeObjective M
  whole_objective (each o no_one) = λ v h. objective_in M.obj v (o v h)

  pub objective_holds : WholeObjective M → All Holds (objective M ∷ [])
  objective_holds w = each (λ v h. objective_out M.obj v (w v h)) no_one

  pub told_is : told M ≡ or_else (fault M) (earliest_fault (objective M ∷ []))
  unfolding told fault
  told_is = after (conditions M) (objective M ∷ [])

  pub told_exactly : (told M ≡ none) ↔ (WholeNumbers M × WholeObjective M)
  told_exactly =
      let both = or_else-eq-none (fault M) (earliest_fault (objective M ∷ [])) in (
        (λ e. let n = both.0 (sym told_is ∙ e) in (whole_exactly.0 n.0, whole_objective (all_hold (objective M ∷ []) n.1))),
        λ w. told_is ∙ both.1 (whole_exactly.1 w.0, no_fault (objective M ∷ []) (objective_holds w.1)),
      )

  -- ---- what is told by number
  pub up_to_seven : (f : ℕ × ℕ) → fault M ≡ some f → f.0 ≤ 7
  unfolding fault conditions
  up_to_seven f e =
      numbered (λ (n : ℕ). n ≤ 7) (conditions M)
      (each (omega arith) (each (omega arith) (each (omega arith) (each (omega arith) (each (omega arith) (each (omega arith) (each (omega arith) no_one))))))) f e

  pub eight : (f : ℕ × ℕ) → earliest_fault (objective M ∷ []) ≡ some f → f.0 ≡ 8
  eight f e = numbered (λ (n : ℕ). n ≡ 8) (objective M ∷ []) (each refl no_one) f e

  pub told_fault : (k i : ℕ) → ((told M ≡ some (k, i)) × (k ≤ 7)) ↔ (fault M ≡ some (k, i))
  told_fault k i =
      let one = or_else-eq-some (fault M) (earliest_fault (objective M ∷ [])) (k, i) in (
        (λ p. elim (one.0 (sym told_is ∙ p.0)) [ inl e ↦ e | inr e ↦ absurd (omega (arith, p.1, eight (k, i) e.1)) ]),
        λ e. (told_is ∙ one.1 (inl e), up_to_seven (k, i) e),
      )

  pub objective_told : (v : ℕ) → told M ≡ some (8, v) → WholeNumbers M
  objective_told v t =
      elim ((or_else-eq-some (fault M) (earliest_fault (objective M ∷ [])) (8, v)).0 (sym told_is ∙ t)) [ inl e ↦ absurd (omega (arith, up_to_seven (8, v) e)) | inr e ↦ whole_exactly.0 e.0 ]
