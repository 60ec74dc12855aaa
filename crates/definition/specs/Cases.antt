-- 01's "twelve model days": one table of models and answers, and one theorem, by computing the definition: each model is accepted, and has its answer.
use Rattle.std.specs.Prelude.{◌≡◌, ℕ, ◌+◌, ◌^◌, true, false, pos, length, Float}
use Rattle.std.proofs.Common.{ap, sym, subst, ⊎_elim}
use mathlib.Core.List.Memᴰ
use mathlib.Core.List.{List, [], ◌∷◌, ◌++◌, Memᴰ}
use Rattle.std.proofs.Math.Option.{Option, none}
use Rattle.std.specs.Float.{binary64}
use Rattle.std.specs.Float.Ieee.{neg, add, sub, mul, div, lt, eq, le, round, of_int, of_bits, to_bits, is_nan, ne}
use Rattle.floats.specs.Value.{mags}
use Rattle.floats.specs.Next.{gap, prev}
use Rattle.floats.specs.Num.{choose, is_finite, is_infinite, abs, maxf, minf, trunc_of, away_of, plus_zero, floor, ceil, next_up, next_down, of_count}
use Rattle.cdouble.specs.Double as double
use Rattle.tolerances.specs.Tol.{Term, term, row_tolerance, bound_tolerance, outside, slack_min, slack_max, trivial_verdict, slack_margin}
use Rattle.tolerances.specs.Tol.{slack_tol, less_term, implied_from, implied_slack, says_true, violated, zip_terms}
use Rattle.definition.specs.Params.{params}
use Rattle.definition.specs.Model.{Model, from as model·from, upto, nnz, written, op_of, rhs_of, is_int_domain, is_mip, is_int, as_written}
use Rattle.definition.specs.Model.{rhs_mag, coeff_in, or_else, coeff_of, range_min, range_max, counts, Emit, Answer, infeasible, done}
use Rattle.definition.specs.Work.{has, has_term, fixed, drop_row, budget, bound_tol, trivial}
use Rattle.definition.specs.Activities.{activity_step, activity_from, activity}
use Rattle.definition.specs.Marks.{mark_row, adjacent, mark_from, mark_var}
use Rattle.definition.specs.Bounds.{fix, mark_tightened, emit_bounds, upper_int, upper_real, tighten_upper, lower_int, lower_real, tighten_lower}
use Rattle.definition.specs.Folds.{swap_remove, fold_term, fold_step, fold_loop, fixed_besides_from, fixed_besides, widen, bound?}
use Rattle.definition.specs.Folds.{gives_back, rewrite_room, relax_with, relax_binding, given_back, hold_rewrites, fold_fixed}
use Rattle.definition.specs.Singles.{fixed_value, finite_mag, empty_row_check, room_at, widened_at, dropped_room, new_lower, new_upper, singleton_int}
use Rattle.definition.specs.Singles.{singleton_misses, singleton_bounds, lower_meets, upper_meets, singleton_drop, singleton_row}
use Rattle.definition.specs.Sides.{hi_side, lo_side, mag_l, mag_u, within_lo, within_hi, within, within_by, side_mag, mag_both}
use Rattle.definition.specs.Sides.{budget_l, budget_u, above_hi, below_lo, unreachable, near_min, near_max, redundant}
use Rattle.definition.specs.Forcing.{corner, forced_term, all_forced, forcing_at, forces_min, forces_max, fix_all}
use Rattle.definition.specs.Implied.{rest_of, finite_abs, implied, implied_term, implied_bounds}
use Rattle.definition.specs.Wave.{idle, several_terms, by_count, wave_row, wave_rows, wave, waves}
use Rattle.definition.specs.Rewrites.{form_of, rewrites, vacuous_room, act_after, shrink_le, raise_le, vacuous_le, shrink_ge, lower_ge, vacuous_ge, vacuous}
use Rattle.definition.specs.Bindings.{sum_coeffs, taken, rewrite_binding, growth, binding_sum, bound_with, rewritten_bound}
use Rattle.definition.specs.Tighten.{set_coeff, queued, binary, rewrite_of, eligible, rebound_row, row_after, rewrite_step, rewrite_loop}
use Rattle.definition.specs.Tighten.{spared, tighten_form, tighten_by, tighten_row, tighten_from, tighten_binary_coeffs}
use Rattle.definition.specs.Dual.{block_terms, bad_dec, bad_inc, none_bad, may_fall, may_rise, dual_var, dual_from, dual_fix}
use Rattle.definition.specs.Begin.{crossed, rounded_lower, rounded_upper, round_var, round_from, add_row, read_row, read_from}
use Rattle.definition.specs.Rounds.{dual_step, after_waves, rounds}
use Rattle.definition.specs.Emit.{insert_term, sort_terms, no_terms, same_bounds, out_row, out_empty, out_alive, out_one, out_from, differs, answer_of}
use Rattle.definition.specs.Presolve.{finish, start, after_rounding, presolve}
use Rattle.definition.specs.Refusal.{refusal, shortest}

-- ---- how a case is written
-- a whole number, a fraction rounded to the nearest float, minus zero, and a float by its bits
abbrev pub # : ℕ → Float
# n = of_int binary64 (pos n)

abbrev pub ratio : ℕ → ℕ → Float
ratio n d = round binary64 false n d

abbrev pub -0f : Float
-0f = of_bits binary64 0x8000_0000_0000_0000

abbrev pub bits : ℕ → Float
bits n = of_bits binary64 n

pub record Variable : Type 0 where
  pub domain : ℕ
  pub lower : Float
  pub upper : Float

abbrev integer : Float → Float → Variable
integer l h = record { domain = 0; lower = l; upper = h }

abbrev boolean : Variable
boolean = record { domain = 2; lower = # 0; upper = # 1 }

abbrev pub p : Variable
p = integer (# 0) (# 10)

abbrev u : Variable
u = boolean

abbrev v : Variable
v = boolean

abbrev w : Variable
w = integer (# 0) (# 8)

-- coefficient · variable's number
infix 80 ◌·◌
abbrev pub ◌·◌ : ℕ → ℕ → Term
◌·◌ a k = term k (# a)

pub record Line : Type 0 where
  pub terms : List Term
  pub op : ℕ
  pub rhs : Float

-- terms = b, terms ≤ b, terms ≥ b
abbrev pub is_eq : List Term → Float → Line
is_eq ts b = record { terms = ts; op = 0; rhs = b }

abbrev pub is_le : List Term → Float → Line
is_le ts b = record { terms = ts; op = 1; rhs = b }

abbrev pub is_ge : List Term → Float → Line
is_ge ts b = record { terms = ts; op = 2; rhs = b }

unfoldable pub objs : List Variable → List Float
objs [] = []
objs (x ∷ xs) = # 0 ∷ objs xs

unfoldable pub lowers : List Variable → List Float
lowers [] = []
lowers (x ∷ xs) = x.lower ∷ lowers xs

unfoldable pub uppers : List Variable → List Float
uppers [] = []
uppers (x ∷ xs) = x.upper ∷ uppers xs

unfoldable pub domains : List Variable → List ℕ
domains [] = []
domains (x ∷ xs) = x.domain ∷ domains xs

unfoldable pub starts_from : ℕ → List Line → List ℕ
starts_from n [] = n ∷ []
starts_from n (x ∷ xs) = n ∷ starts_from (n + length x.terms) xs

unfoldable pub all_terms : List Line → List Term
all_terms [] = []
all_terms (x ∷ xs) = x.terms ++ all_terms xs

unfoldable pub vars : List Term → List ℕ
vars [] = []
vars (t ∷ ts) = t.var ∷ vars ts

unfoldable pub coeffs : List Term → List Float
coeffs [] = []
coeffs (t ∷ ts) = t.coeff ∷ coeffs ts

unfoldable pub ops : List Line → List ℕ
ops [] = []
ops (x ∷ xs) = x.op ∷ ops xs

unfoldable pub sides : List Line → List Float
sides [] = []
sides (x ∷ xs) = x.rhs ∷ sides xs

-- the model of these tolerances, mode, variables and rows: objective 0
unfoldable pub model_within : Float → Float → ℕ → List Variable → List Line → Model
model_within feas int_tol mode xs ls =
    record {
      obj = objs xs;
      lower = lowers xs;
      upper = uppers xs;
      domain = domains xs;
      starts = starts_from 0 ls;
      index = vars (all_terms ls);
      coeff = coeffs (all_terms ls);
      cmp = ops ls;
      rhs = sides ls;
      mode = mode;
      feas = feas;
      int_tol = int_tol;
      params = params;
    }

-- feasibility 1e-6, int_tol 1e-9
unfoldable pub model : ℕ → List Variable → List Line → Model
model = model_within (ratio 1 (10 ^ 6)) (ratio 1 (10 ^ 9))

-- to unfold this is to unfold all that its line names: how a model is written
unfoldable pub writing : Unit {0}
unfolding objs lowers uppers domains starts_from all_terms vars coeffs ops sides model_within model
writing = tt

-- an emitted row: its number, right side and span
abbrev pub written_row : ℕ → Float → ℕ → ℕ → Emit
written_row r b s e = record { row = r; rewritten = false; rhs = b; from = s; upto = e }

abbrev rewritten_row : ℕ → Float → ℕ → ℕ → Emit
rewritten_row r b s e = record { row = r; rewritten = true; rhs = b; from = s; upto = e }

pub record Case : Type 0 where
  pub model : Model
  pub answer : Answer

abbrev pub case : Model → Answer → Case
case m a = record { model = m; answer = a }

-- ---- the table, numbers as in 01
unfoldable pub cases : List Case
cases =
    -- 1. 2p ≤ 7
    case (model 1 (p ∷ []) (is_le (2 · 0 ∷ []) (# 7) ∷ []))
    (done (record { counts = counts 1 1 0 0 2; lower = # 0 ∷ []; upper = # 3 ∷ []; emitted = []; terms = []; kept = 0 ∷ []; flag = true }))
    -- 2. 2p ≤ 6: only its tolerance keeps the row
    ∷ case (model 1 (p ∷ []) (is_le (2 · 0 ∷ []) (# 6) ∷ []))
    (done (record { counts = counts 0 1 0 0 2; lower = # 0 ∷ []; upper = # 3 ∷ []; emitted = written_row 0 (# 6) 0 1 ∷ []; terms = []; kept = []; flag = true }))
    -- 3. 2p = 7
    ∷ case (model 1 (p ∷ []) (is_eq (2 · 0 ∷ []) (# 7) ∷ [])) (infeasible (counts 0 0 0 0 1))
    -- 4. 2p ≤ 1: no fixed variable is counted
    ∷ case (model 1 (p ∷ []) (is_le (2 · 0 ∷ []) (# 1) ∷ []))
    (done (record { counts = counts 1 1 0 0 2; lower = # 0 ∷ []; upper = # 0 ∷ []; emitted = []; terms = []; kept = 0 ∷ []; flag = true }))
    -- 5. u + v ≥ 2
    ∷ case (model 1 (u ∷ v ∷ []) (is_ge (1 · 0 ∷ 1 · 1 ∷ []) (# 2) ∷ []))
    (done (record { counts = counts 1 0 2 0 2; lower = # 1 ∷ # 1 ∷ []; upper = # 1 ∷ # 1 ∷ []; emitted = []; terms = []; kept = 0 ∷ []; flag = true }))
    -- 6. u + v ≥ 1
    ∷ case (model 1 (u ∷ v ∷ []) (is_ge (1 · 0 ∷ 1 · 1 ∷ []) (# 1) ∷ []))
    (done (record { counts = counts 0 0 0 0 1; lower = # 0 ∷ # 0 ∷ []; upper = # 1 ∷ # 1 ∷ []; emitted = written_row 0 (# 1) 0 2 ∷ []; terms = []; kept = []; flag = false }))
    -- 7. u + v ≥ 3
    ∷ case (model 1 (u ∷ v ∷ []) (is_ge (1 · 0 ∷ 1 · 1 ∷ []) (# 3) ∷ [])) (infeasible (counts 0 0 0 0 1))
    -- 8. 3u + w ≤ 10: rewritten
    ∷ case (model 1 (u ∷ w ∷ []) (is_le (3 · 0 ∷ 1 · 1 ∷ []) (# 10) ∷ []))
    (done
    (record {
      counts = counts 0 0 0 1 2;
      lower = # 0 ∷ # 0 ∷ [];
      upper = # 1 ∷ # 8 ∷ [];
      emitted = rewritten_row 0 (bits 0x4020_0000_8637_bd7c) 0 2 ∷ [];
      terms = term 0 (bits 0x3ff0_0004_31bd_ebe0) ∷ term 1 (bits 0x3ff0_0000_0000_0000) ∷ [];
      kept = 0 ∷ [];
      flag = true;
    }))
    -- 9. case 5 in mode 0
    ∷ case (model 0 (u ∷ v ∷ []) (is_ge (1 · 0 ∷ 1 · 1 ∷ []) (# 2) ∷ []))
    (done (record { counts = counts 0 2 0 0 2; lower = # 0 ∷ # 0 ∷ []; upper = # 1 ∷ # 1 ∷ []; emitted = written_row 0 (# 2) 0 2 ∷ []; terms = []; kept = []; flag = false }))
    -- 10. an Integer 0.4 to 0.6, no rows
    ∷ case (model 1 (integer (ratio 4 10) (ratio 6 10) ∷ []) []) (infeasible (counts 0 0 0 0 0))
    -- 11. an empty Le, right side -1e-7
    ∷ case (model 1 [] (is_le [] (round binary64 true 1 (10 ^ 7)) ∷ []))
    (done (record { counts = counts 1 0 0 0 0; lower = []; upper = []; emitted = []; terms = []; kept = []; flag = true }))
    -- 12. an empty Le, right side -1
    ∷ case (model 1 [] (is_le [] (round binary64 true 1 1) ∷ [])) (infeasible (counts 0 0 0 0 0))
    ∷ []

-- to unfold this is to unfold all that its line names: every definition that presolve comes to
unfoldable pub everything : Unit {0}
unfolding neg add sub mul div lt eq le round of_int of_bits to_bits is_nan ne mags gap prev choose is_finite is_infinite abs maxf minf trunc_of away_of plus_zero floor ceil
    next_up next_down of_count double.two_sum double.split double.two_product double.from double.plus double.plus_product double.value double.rounded row_tolerance
    bound_tolerance outside slack_min slack_max trivial_verdict slack_margin slack_tol less_term implied_from implied_slack says_true violated zip_terms model·from upto
    nnz written op_of rhs_of is_int_domain is_mip is_int as_written rhs_mag coeff_in or_else coeff_of range_min range_max has has_term fixed drop_row budget bound_tol trivial
    activity_step activity_from activity mark_row adjacent mark_from mark_var fix mark_tightened emit_bounds upper_int upper_real tighten_upper lower_int lower_real
    tighten_lower swap_remove fold_term fold_step fold_loop fixed_besides_from fixed_besides widen bound? gives_back rewrite_room relax_with relax_binding given_back
    hold_rewrites fold_fixed fixed_value finite_mag empty_row_check room_at widened_at dropped_room new_lower new_upper singleton_int singleton_misses singleton_bounds
    lower_meets upper_meets singleton_drop singleton_row hi_side lo_side mag_l mag_u within_lo within_hi within within_by side_mag mag_both budget_l budget_u above_hi below_lo
    unreachable near_min near_max redundant corner forced_term all_forced forcing_at forces_min forces_max fix_all rest_of finite_abs implied implied_term implied_bounds
    idle several_terms by_count wave_row wave_rows wave waves form_of rewrites vacuous_room act_after shrink_le raise_le vacuous_le shrink_ge lower_ge vacuous_ge vacuous
    sum_coeffs taken rewrite_binding growth binding_sum bound_with rewritten_bound set_coeff queued binary rewrite_of eligible rebound_row row_after rewrite_step
    rewrite_loop spared tighten_form tighten_by tighten_row tighten_from tighten_binary_coeffs block_terms bad_dec bad_inc none_bad may_fall may_rise dual_var dual_from
    dual_fix crossed rounded_lower rounded_upper round_var round_from add_row read_row read_from dual_step after_waves rounds insert_term sort_terms no_terms same_bounds
    out_row out_empty out_alive out_one out_from differs answer_of finish start after_rounding presolve
everything = tt

-- a call's refusal, or none, and the definition's answer
abbrev pub Verdict : Type 0
Verdict = Option ℕ × Answer

-- of calls that lend the shortest slices
unfoldable pub presolved : List Case → List Verdict
presolved [] = []
presolved (d ∷ ds) = (refusal d.model (shortest d.model), presolve d.model) ∷ presolved ds

-- the table's: accepted, with its answer
unfoldable pub answers : List Case → List Verdict
answers [] = []
answers (d ∷ ds) = (none, d.answer) ∷ answers ds

-- the theorem for one case of the table: its model is accepted, and has its answer
abbrev pub Right : Case → Type 0
Right c = (refusal c.model (shortest c.model) ≡ none) × (presolve c.model ≡ c.answer)

pub each : (cs : List Case) → presolved cs ≡ answers cs → (c : Case) → Memᴰ c cs → Right c
unfolding presolved answers
each [] e c m = absurd (Memᴰ.not-nil m)
each (d ∷ ds) e c m =
    let h : ◌≡◌ {A = Verdict} (refusal d.model (shortest d.model), presolve d.model) (none, d.answer) = cc in
    let t : presolved ds ≡ answers ds = cc in
    ⊎_elim (λ q. subst Right (sym q) (ap (λ (z : Verdict). z.0) h, ap (λ (z : Verdict). z.1) h)) (λ i. each ds t c i) (Memᴰ.cases_cons m)
