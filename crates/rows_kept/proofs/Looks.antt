-- WHERE AN ACTIVITY IS TAKEN: presolve looks at the activity of a live row as it stands, in a state that is reached, and nowhere else. With any `act` that
-- agrees with the definition's activity on these looks (`WithActivity`) the answer is the same: `only_looks`. So what holds of the activity on every look holds
-- of every activity that has a part in the answer.
use Prim.Native.Nat.{ℕ, zero, suc, ◌-◌}
use Rattle.std.specs.Prelude.{◌≡◌, Bool, ◌&&◌, ◌||◌, length, Float}
use Rattle.std.proofs.Math.Path.{refl, ap, ap₂}
use Rattle.std.proofs.Common.{◌∙◌}
use Rattle.std.proofs.Math.Bool.{true, false}
use mathlib.Core.List.{List, [], ◌∷◌}
use Rattle.std.proofs.Math.ListN.{get_or}
use Rattle.floats.specs.Num.{choose}
use Rattle.tolerances.specs.Tol.{Term}
use Rattle.definition.specs.declared.Activity.{Activity}
use Rattle.definition.specs.Params.{max_waves}
use Rattle.definition.specs.Model.{Model, is_mip, Row}
use Rattle.definition.specs.Work.{Work, with_row, Step, stop, next, ◌>>=◌, no_row, drop_row}
use Rattle.definition.specs.Activities.{activity}
use Rattle.definition.specs.Begin.{crossed, Bounds, cross, bounds, Rows, false_row, rows_are, round_from, read_from}
use Rattle.definition.specs.Sides.{unreachable, redundant}
use Rattle.definition.specs.Forcing.{forces_min, forces_max, fix_all}
use Rattle.definition.specs.Implied.{implied_bounds}
use Rattle.definition.specs.Wave.{idle, several_terms, by_count, wave_row, wave_rows, wave, waves}
use Rattle.definition.specs.Rewrites.{Form, le_form, ge_form, no_form, form_of, vacuous_room}
use Rattle.definition.specs.Tighten.{eligible, rewrite_loop, spared, tighten_form, tighten_by, tighten_row, tighten_from, tighten_binary_coeffs}
use Rattle.definition.specs.Rounds.{dual_step, after_waves, rounds}
use Rattle.definition.specs.Presolve.{finish, start, after_rounding, presolve}
use Rattle.definition.specs.Choices.{and_left}
use Rattle.rows_kept.specs.Steps.{Each, stopped, went}
use Rattle.rows_kept.specs.Kept.{folded}
use Rattle.rows_kept.proofs.RowSteps.{changed_alive}
use Rattle.rows_kept.proofs.Waves.{get_set, tighten_row_lem}
use Rattle.rows_kept.specs.States.{Reaches, begins, marks, passes, at_turn}
use Rattle.rows_kept.proofs.States.{marking, rowing, turn_reached, turn_on, wave_on, waves_on, after_on}
use Rattle.rows_kept.specs.Whole.{begun}
use Rattle.rows_kept.specs.WithActivity as with
use Rattle.rows_kept.specs.Looks.{Look}

-- ---- equal choices and steps
pub same_choice : {A : Type 0} (b : Bool) {x z : A} (y : A) → (b ≡ true → x ≡ z) → choose b x y ≡ choose b z y
unfolding choose
same_choice true y f = f refl
same_choice false y f = refl

pub same_other : {A : Type 0} (b : Bool) (x : A) {y z : A} → (b ≡ false → y ≡ z) → choose b x y ≡ choose b x z
unfolding choose
same_other true x f = refl
same_other false x f = f refl

pub same_then : {P : Work → Type 0} {s : Step} {f g : Work → Step} → Each P s → ((w : Work) → P w → f w ≡ g w) → s >>= f ≡ s >>= g
same_then (stopped w e p) h = refl
same_then (went {w} p) h = h w p

module _ (M : Model) (act : Work → Row → Bool → Activity) (agrees : (w : Work) (row : Row) → Look M w row → (working : Bool) → act w row working ≡ activity M w row working) where
  pub several : (r : ℕ) (row : Row) (w : Work) → Look M w row → with.several_with M act r row w ≡ several_terms M r row w
  unfolding with.several_with several_terms
  several r row w l =
      ap₂ (λ (wact e : Activity).
      choose (unreachable M r row wact) (stop w.counts)
      (choose (forces_min M r row wact e w) (next (drop_row r row (fix_all M true w row.terms w)))
      (choose (forces_max M r row wact e w) (next (drop_row r row (fix_all M false w row.terms w)))
      (choose (redundant M row wact e) (next (drop_row r row w)) (implied_bounds M r row wact row.terms w)))))
      (agrees w row l true) (agrees w row l false)

  pub by_count_lem : (r : ℕ) (row : Row) (ts : List Term) (w : Work) → Look M w row → with.by_count_with M act r row ts w ≡ by_count M r row ts w
  unfolding with.by_count_with by_count
  by_count_lem r row [] w l = refl
  by_count_lem r row (t ∷ []) w l = refl
  by_count_lem r row (t ∷ u ∷ ts) w l = several r row w l

  pub turn : (r : ℕ) (w : Work) → Reaches M w → with.wave_row_with M act r w ≡ wave_row M r w
  unfolding with.wave_row_with wave_row
  turn r w h =
      same_choice (get_or w.rows r no_row).alive _
      (λ a. by_count_lem r _ _ (at_turn M r w)
      (record { reached = turn_reached M r w a h; place = r; stands = get_set w.rows r _ a; alive = changed_alive M r (folded _) a }))

  pub turns : (rs : List ℕ) (w : Work) → Reaches M w → with.wave_rows_with M act rs w ≡ wave_rows M rs w
  unfolding with.wave_rows_with wave_rows
  turns [] w h = refl
  turns (r ∷ rs) w h =
      ap (λ (s : Step). s >>= λ x. with.wave_rows_with M act rs x) (turn r w h) ∙ same_then (turn_on M r w h) (λ x q. turns rs x q)

  pub one_wave : (w : Work) → Reaches M w → with.wave_with M act w ≡ wave M w
  unfolding with.wave_with wave
  one_wave w h = turns w.queue _ (passes (marks w.dirty w.coeff_dirty [] h))

  pub all_waves : (n : ℕ) (w : Work) → Reaches M w → with.waves_with M act n w ≡ waves M n w
  unfolding with.waves_with waves
  all_waves zero w h = refl
  all_waves (suc n) w h =
      ap (λ (s : Step). choose (idle w.queue) (next w) s)
      (ap (λ (s : Step). s >>= λ x. with.waves_with M act n x) (one_wave w h) ∙ same_then (wave_on M w h) (λ x q. all_waves n x q))

  -- ---- the coefficient step
  pub form : (f : Form) (r : ℕ) (row : Row) (w : Work) (changed : Bool) → Look M w row → with.tighten_form_with M act f r row w changed ≡ tighten_form M f r row w changed
  unfolding with.tighten_form_with tighten_form
  form f r row w changed l =
      ap (λ (a : Activity).
      let s = rewrite_loop M (length row.terms) f (vacuous_room f row a) r 0 (record { row = row; act = a; work = w; changed = changed; broke = false }) in
      choose (spared M row (eligible M f (vacuous_room f row a) w row a row.terms 0)) (w, changed) (with_row r s.row s.work, s.changed))
      (agrees w row l true)

  pub by_form : (f : Form) (r : ℕ) (row : Row) (w : Work) (changed : Bool) → Look M w row → with.tighten_by_with M act f r row w changed ≡ tighten_by M f r row w changed
  unfolding with.tighten_by_with tighten_by
  by_form le_form r row w changed l = form le_form r row w changed l
  by_form ge_form r row w changed l = form ge_form r row w changed l
  by_form no_form r row w changed l = refl

  pub one_row : (r : ℕ) (w : Work) (changed : Bool) → Reaches M w → with.tighten_row_with M act r w changed ≡ tighten_row M r w changed
  unfolding with.tighten_row_with tighten_row
  one_row r w changed h =
      same_choice ((get_or w.rows r no_row).alive && get_or w.coeff_dirty r false) _
      (λ t. by_form (form_of (get_or w.rows r no_row)) r _ _ changed
      (record { reached = marks _ _ _ h; place = r; stands = refl; alive = and_left (get_or w.rows r no_row).alive (get_or w.coeff_dirty r false) t }))

  pub from_row : (n r : ℕ) (w : Work) (changed : Bool) → Reaches M w → with.tighten_from_with M act n r w changed ≡ tighten_from M n r w changed
  unfolding with.tighten_from_with tighten_from
  from_row zero r w changed h = refl
  from_row (suc n) r w changed h =
      ap (λ (s : Work × Bool). with.tighten_from_with M act n (suc r) s.0 s.1) (one_row r w changed h)
      ∙ from_row n (suc r) _ _ (tighten_row_lem M (marking M) (rowing M) r w changed h)

  pub after : (w : Work) → Reaches M w → with.after_waves_with M act w ≡ after_waves M w
  unfolding with.after_waves_with after_waves tighten_binary_coeffs
  after w h =
      ap (λ (s : Work × Bool). choose (is_mip M) ((dual_step M s.0).0, s.1 || (dual_step M s.0).1) (w, false)) (from_row (length w.rows) 0 w false h)

  pub all_rounds : (n : ℕ) (w : Work) → Reaches M w → with.rounds_with M act n w ≡ rounds M n w
  unfolding with.rounds_with rounds
  all_rounds zero w h = refl
  all_rounds (suc n) w h =
      ap (λ (s : Step). s >>= λ x. choose (with.after_waves_with M act x).1 (with.rounds_with M act n (with.after_waves_with M act x).0) (next (with.after_waves_with M act x).0))
      (all_waves (max_waves M.params - w.counts.passes) w h)
      ∙ same_then (waves_on M (max_waves M.params - w.counts.passes) w h)
      (λ x q. ap (λ (s : Work × Bool). choose s.1 (with.rounds_with M act n s.0) (next s.0)) (after x q)
      ∙ ap (λ (t : Step). choose (after_waves M x).1 t (next (after_waves M x).0)) (all_rounds n _ (after_on M x q)))

  -- ---- the start
  pub started : (ls hs : List Float) (s : Rows) → crossed M.lower M.upper ≡ false → round_from M (length M.lower) 0 (bounds M.lower M.upper) ≡ bounds ls hs
      → read_from M (length M.rhs) 0 (rows_are [] [] [] 0) ≡ s → with.start_with M act ls hs s ≡ start M ls hs s
  unfolding with.start_with start
  started ls hs (false_row n) c b e = refl
  started ls hs (rows_are rows queue dirty n) c b e = ap (finish M) (all_rounds M.params.max_rounds (begun ls hs rows queue dirty n) (begins c b e))

  pub rounded : (b : Bounds) → crossed M.lower M.upper ≡ false → round_from M (length M.lower) 0 (bounds M.lower M.upper) ≡ b
      → with.after_rounding_with M act b ≡ after_rounding M b
  unfolding with.after_rounding_with after_rounding
  rounded cross c e = refl
  rounded (bounds ls hs) c e = started ls hs _ c e refl

  -- THE THEOREM
  pub only_looks : with.presolve_with M act ≡ presolve M
  unfolding with.presolve_with presolve
  only_looks = same_other (crossed M.lower M.upper) _ (λ c. rounded _ c refl)
