-- THE STATES THAT PRESOLVE REACHES, for any model: its start, and what each move makes of a state. A move is the least that the definition does to a state at
-- once: marks, a count, a bound, a fixing, a row changed or dropped. `answer_reached` follows presolve from move to move to its answer, infeasible ones
-- included, so that no state on its way is left out. More is let in than presolve comes to (a bound from any numbers, any row's fold): what holds of every
-- state here holds of more than is asked.
use Prim.Native.Nat.{ℕ, zero, suc, ◌-◌}
use Rattle.std.proofs.Common.{zero-add, ap, subst, ◌∙◌}
use Rattle.std.specs.Prelude.{◌≡◌, length, Float}
use Rattle.std.proofs.Math.Path.{refl}
use Rattle.std.proofs.Math.Bool.{Bool, true, false}
use mathlib.Core.List.{List, [], ◌∷◌}
use Rattle.std.proofs.Math.Option.{Option, none, some}
use Rattle.std.proofs.Math.ListN.{get_or}
use Rattle.tolerances.specs.Tol.{Term}
use Rattle.definition.specs.declared.Activity.{Activity}
use Rattle.definition.specs.Params.{max_waves}
use Rattle.definition.specs.Model.{Model, Row, passed}
use Rattle.definition.specs.Work.{Work, with_counts, Step, stop, next, no_row, drop_row}
use Rattle.definition.specs.Begin.{crossed, Bounds, cross, bounds, Rows, false_row, rows_are, round_from, read_from}
use Rattle.definition.specs.Bounds.{fix, upper_int, upper_real, tighten_upper, lower_int, lower_real, tighten_lower}
use Rattle.definition.specs.Singles.{empty_row_check, singleton_int, singleton_bounds, singleton_drop, singleton_row}
use Rattle.definition.specs.Forcing.{fix_all}
use Rattle.definition.specs.Implied.{implied, implied_term, implied_bounds}
use Rattle.definition.specs.Dual.{dual_from, dual_fix}
use Rattle.definition.specs.Wave.{several_terms, by_count, wave_row, wave_rows, wave, waves}
use Rattle.definition.specs.Rounds.{dual_step, after_waves, rounds}
use Rattle.definition.specs.Emit.{no_out, Final, fails, final, answer_of}
use Rattle.definition.specs.Presolve.{finish, start, after_rounding, presolve}
use Rattle.definition.specs.Choices.{both, taking}
use Rattle.rows_kept.specs.Steps.{Each, stopped, went}
use Rattle.rows_kept.proofs.Steps.{then}
use Rattle.rows_kept.specs.Kept.{Marking, Bounding, folded, Rowing, Kept}
use Rattle.rows_kept.proofs.RowSteps.{changed_alive}
use Rattle.rows_kept.proofs.Boxes.{mark_var_lem, min_ints, max_ints, fix_kept, upper_kept, lower_kept, singleton_int_lem, corner_value, dual_var_lem}
use Rattle.rows_kept.specs.Boxes.{Ints, no_term, int_term}
use Rattle.rows_kept.specs.Waves.{Same}
use Rattle.rows_kept.proofs.Waves.{get_set, tighten_kept}
use Rattle.rows_kept.specs.Outs.{Ends, failed, ended, Going}
use Rattle.rows_kept.proofs.Outs.{from_ends, goes_kept}
use Rattle.rows_kept.specs.Whole.{Read, ReadR, reads, unread, begun}
use Rattle.rows_kept.proofs.Whole.{read_from_lem}
use Rattle.rows_kept.specs.States.{Answered, BoundsKept, OfBounds, Halts, I, On, Reaches, at_turn, before, begins, changes, counted, drops}
use Rattle.rows_kept.specs.States.{fixes, forces, found_infeasible, goes, halts, lowers, marks, passes, raises, reduced_to, singles}

pub next_is : {P : Work → Type 0} {w : Work} → Each P (next w) → P w
next_is (went p) = p

-- ---- WHAT THE MOVES KEEP holds in every state that is reached
module _ (M : Model) {P : Work → Type 0} (K : Kept M P) (pass : (w : Work) → P w → P (with_counts (passed w.counts) w))
    (begin : (ls hs : List Float) (rows : List Row) (queue : List ℕ) (dirty : List Bool) (n : ℕ) → Read M (length M.rhs) rows queue n → P (begun ls hs rows queue dirty n)) where
  pub was_read : {k : ℕ} {rs : List Row} {q : List ℕ} {d : List Bool} → read_from M (length M.rhs) 0 (rows_are [] [] [] 0) ≡ rows_are rs q d k → Read M (length M.rhs) rs q k
  was_read {k} {rs} {q} {d} e =
      of_rows {d = d} (subst (λ (n : ℕ). ReadR M n (rows_are rs q d k)) (zero-add (length M.rhs)) (subst (ReadR M _) e (read_from_lem M (length M.rhs) 0 (rows_are [] [] [] 0) (reads unread))))
    where
      of_rows : {n k : ℕ} {rs : List Row} {q : List ℕ} {d : List Bool} → ReadR M n (rows_are rs q d k) → Read M n rs q k
      of_rows (reads h) = h

  pub reached_kept : {w : Work} → Reaches M w → P w
  reached_kept (begins {ls} {hs} {rows} {queue} {dirty} {n} c b e) = begin ls hs rows queue dirty n (was_read e)
  reached_kept (marks {w} d c q h) = K.bounding.marking.marks w d c q (reached_kept h)
  reached_kept (counted {w} a b c h) = K.bounding.marking.counted w a b c (reached_kept h)
  reached_kept (passes {w} h) = pass w (reached_kept h)
  reached_kept (lowers {w} v q relax e h) = next_is (subst (Each P) e (upper_kept M K.bounding v q relax w (reached_kept h)))
  reached_kept (raises {w} v q relax e h) = next_is (subst (Each P) e (lower_kept M K.bounding v q relax w (reached_kept h)))
  reached_kept (singles {w} r row v a blo bhi i e h) = next_is (subst (Each P) e (singleton_int_lem M K.bounding r row v a blo bhi w i (reached_kept h)))
  reached_kept (forces {w0} {w} minCorner t i g h) = fix_kept M K.bounding t.var _ w i (corner_value M K.bounding minCorner w0 t (reached_kept g)) (reached_kept h)
  reached_kept (fixes {w} dec inc v changed h) = dual_var_lem M K.bounding dec inc v w changed (reached_kept h)
  reached_kept (changes {w} r row a c h) = K.rowing.changes w r row a c (reached_kept h)
  reached_kept (drops {w} r row g a h) = K.rowing.drops w r row g a (reached_kept h)

-- ---- AND SO DOES WHAT THE MOVES OF BOUNDS KEEP: nothing else changes a bound
pub bounds_reached : {M : Model} {P : List Float → List Float → List Float → List Float → Type 0} {w : Work} → BoundsKept M P → Reaches M w → OfBounds P w
unfolding drop_row
bounds_reached K (begins c b e) = K.begins c b
bounds_reached K (marks {w} d c q h) = bounds_reached K h
bounds_reached K (counted {w} a b c h) = bounds_reached K h
bounds_reached K (passes {w} h) = bounds_reached K h
bounds_reached {P = P} K (lowers {w} v q relax e h) = next_is (subst (Each (OfBounds P)) e (K.lowers v q relax w (bounds_reached K h)))
bounds_reached {P = P} K (raises {w} v q relax e h) = next_is (subst (Each (OfBounds P)) e (K.raises v q relax w (bounds_reached K h)))
bounds_reached {P = P} K (singles {w} r row v a blo bhi i e h) = next_is (subst (Each (OfBounds P)) e (K.singles r row v a blo bhi w (bounds_reached K h)))
bounds_reached K (forces {w0} {w} minCorner t i g h) = K.forces minCorner w0 w t (bounds_reached K g) (bounds_reached K h)
bounds_reached K (fixes {w} dec inc v changed h) = K.fixes dec inc v w changed (bounds_reached K h)
bounds_reached K (changes {w} r row a c h) = bounds_reached K h
bounds_reached K (drops {w} r row g a h) = bounds_reached K h

pub moved : {P : Work → Type 0} {w : Work} {s : Step} → Halts w s → P w → ((x : Work) → s ≡ next x → P x) → Each P s
moved {w = w} halts p f = stopped w refl p
moved (goes {x}) p f = went (f x refl)

module _ (M : Model) where
  pub upper_halts : (v : ℕ) (q relax : Float) (w : Work) → Halts w (tighten_upper M v q relax w)
  unfolding tighten_upper upper_int upper_real
  upper_halts v q relax w =
      let H : Step → Type 0 = Halts w in
      both H _ (both H _ (both H _ (both H _ halts goes) goes) (both H _ (both H _ (both H _ halts goes) goes) goes)) goes

  pub lower_halts : (v : ℕ) (q relax : Float) (w : Work) → Halts w (tighten_lower M v q relax w)
  unfolding tighten_lower lower_int lower_real
  lower_halts v q relax w =
      let H : Step → Type 0 = Halts w in
      both H _ (both H _ (both H _ (both H _ halts goes) goes) (both H _ (both H _ (both H _ halts goes) goes) goes)) goes

  pub single_halts : (r : ℕ) (row : Row) (v : ℕ) (a blo bhi : Float) (w : Work) → Halts w (singleton_int M r row v a blo bhi w)
  unfolding singleton_int
  single_halts r row v a blo bhi w = both (Halts w) _ halts goes

  -- ---- bounds and marks leave the rows alone
  pub rows_bounding : (rs : List Row) → Bounding M (λ x. x.rows ≡ rs)
  rows_bounding rs =
      record { marking = record { marks = λ w d c q p. p; counted = λ w a b c p. p }; works = λ w a b p. p; lowers = λ w v x i b p. p; uppers = λ w v x i b p. p }

  pub fixed_rows : (v : ℕ) (x : Float) (w : Work) → (fix M v x w).rows ≡ w.rows
  unfolding fix
  fixed_rows v x w = mark_var_lem M (rows_bounding w.rows).marking v _ refl

  -- ---- PRESOLVE GOES FROM MOVE TO MOVE
  pub marking : Marking (Reaches M)
  marking = record { marks = λ w d c q h. marks d c q h; counted = λ w a b c h. counted a b c h }

  pub rowing : Rowing M (Reaches M)
  rowing = record { changes = λ w r row a c h. changes r row a c h; drops = λ w r row g a h. drops r row g a h }

  pub upper_on : (v : ℕ) (q relax : Float) (w : Work) → Reaches M w → (On M) (tighten_upper M v q relax w)
  upper_on v q relax w h = moved (upper_halts v q relax w) h (λ x e. lowers v q relax e h)

  pub lower_on : (v : ℕ) (q relax : Float) (w : Work) → Reaches M w → (On M) (tighten_lower M v q relax w)
  lower_on v q relax w h = moved (lower_halts v q relax w) h (λ x e. raises v q relax e h)

  pub implied_on : (upper : Bool) (r : ℕ) (row : Row) (b m k c : Float) (t : Term) (o : Option Float) (w : Work) → Reaches M w → (On M) (implied M upper r row b m k c t o w)
  unfolding implied
  implied_on upper r row b m k c t none w h = went h
  implied_on upper r row b m k c t (some rest) w h = both (On M) _ (upper_on t.var _ _ w h) (lower_on t.var _ _ w h)

  pub term_on : (r : ℕ) (row : Row) (act : Activity) (t : Term) (w : Work) → Reaches M w → (On M) (implied_term M r row act t w)
  unfolding implied_term
  term_on r row act t w h =
      then (both (On M) _ (implied_on true r row _ _ _ _ t _ w h) (went h)) (λ x q. q)
      (λ x q. both (On M) _ (implied_on false r row _ _ _ _ t _ x q) (went q))

  pub bounds_on : (r : ℕ) (row : Row) (act : Activity) (ts : List Term) (w : Work) → Reaches M w → (On M) (implied_bounds M r row act ts w)
  unfolding implied_bounds
  bounds_on r row act [] w h = went h
  bounds_on r row act (t ∷ ts) w h = then (term_on r row act t w h) (λ x q. q) (λ x q. bounds_on r row act ts x q)

  -- a row of one term
  pub single_on : (r : ℕ) (row : Row) (v : ℕ) (a blo bhi : Float) (w : Work) → Reaches M w → Each (Same (Reaches M) w.rows) (singleton_bounds M r row v a blo bhi w)
  unfolding singleton_bounds
  single_on r row v a blo bhi w h =
      let P : Step → Type 0 = Each (Same (Reaches M) w.rows) in
      let here : Same (Reaches M) w.rows w = record { holds = h; rows = refl } in
      taking P _
      (λ i. moved (single_halts r row v a blo bhi w) here
      (λ x e. record {
        holds = singles r row v a blo bhi i e h;
        rows = next_is {P = λ y. y.rows ≡ w.rows} (subst (Each (λ y. y.rows ≡ w.rows)) e (singleton_int_lem M (rows_bounding w.rows) r row v a blo bhi w i refl));
      }))
      (λ i. both P _ (stopped w refl here) (went here))

  pub drop_on : (r : ℕ) (row : Row) (v : ℕ) (a blo bhi : Float) (w : Work) → get_or w.rows r no_row ≡ row → row.alive ≡ true → Reaches M w → Reaches M (singleton_drop M r row v a blo bhi w)
  unfolding singleton_drop
  drop_on r row v a blo bhi w g l h = both (Reaches M) _ (drops r row g l h) h

  -- a forcing row's fixings
  pub fix_all_on : (minCorner : Bool) (w0 : Work) (ts : List Term) (w : Work) (rs : List Row) → Ints M ts → Reaches M w0 → Same (Reaches M) rs w → Same (Reaches M) rs (fix_all M minCorner w0 ts w)
  unfolding fix_all
  fix_all_on minCorner w0 [] w rs no_term g h = h
  fix_all_on minCorner w0 (t ∷ ts) w rs (int_term i is) g h =
      fix_all_on minCorner w0 ts _ rs is g (record { holds = forces minCorner t i g h.holds; rows = fixed_rows t.var _ w ∙ h.rows })

  -- ---- a row's turn in a wave
  module _ (r : ℕ) (row : Row) (w : Work) (g : get_or w.rows r no_row ≡ row) (l : row.alive ≡ true) (h : Reaches M w) where
    pub forced_on : (minCorner : Bool) → Ints M row.terms → (On M) (next (drop_row r row (fix_all M minCorner w row.terms w)))
    forced_on minCorner is =
        let x = fix_all_on minCorner w row.terms w w.rows is h (record { holds = h; rows = refl }) in
        went (drops r row (ap (λ (rs : List Row). get_or rs r no_row) x.rows ∙ g) l x.holds)

    pub several_on : (On M) (several_terms M r row w)
    unfolding several_terms
    several_on =
        both (On M) _ (stopped w refl h)
        (taking (On M) _ (λ t. forced_on true (min_ints M r row _ _ w t))
        (λ f. taking (On M) _ (λ t. forced_on false (max_ints M r row _ _ w t))
        (λ f. both (On M) _ (went (drops r row g l h)) (bounds_on r row _ row.terms w h))))

    pub count_on : (ts : List Term) → (On M) (by_count M r row ts w)
    unfolding by_count empty_row_check singleton_row
    count_on [] = both (On M) _ (stopped w refl h) (went (drops r row g l h))
    count_on (t ∷ []) =
        then (single_on r row t.var _ _ _ w h) (λ x q. q.holds)
        (λ x q. went (drop_on r row t.var _ _ _ x (ap (λ (rs : List Row). get_or rs r no_row) q.rows ∙ g) l q.holds))
    count_on (t ∷ u ∷ ts) = several_on

  pub turn_reached : (r : ℕ) (w : Work) → (get_or w.rows r no_row).alive ≡ true → Reaches M w → Reaches M ((at_turn M) r w)
  turn_reached r w a h = changes r _ a (folded _) (marks _ _ _ h)

  pub turn_on : (r : ℕ) (w : Work) → Reaches M w → (On M) (wave_row M r w)
  unfolding wave_row
  turn_on r w h =
      taking (On M) _
      (λ a. count_on r _ ((at_turn M) r w) (get_set w.rows r _ a) (changed_alive M r (folded _) a) (turn_reached r w a h) _)
      (λ a. went (marks _ _ _ h))

  -- ---- waves, the dual step, rounds
  pub rows_on : (rs : List ℕ) (w : Work) → Reaches M w → (On M) (wave_rows M rs w)
  unfolding wave_rows
  rows_on [] w h = went h
  rows_on (r ∷ rs) w h = then (turn_on r w h) (λ x q. q) (λ x q. rows_on rs x q)

  pub wave_on : (w : Work) → Reaches M w → (On M) (wave M w)
  unfolding wave
  wave_on w h = rows_on w.queue _ (passes (marks w.dirty w.coeff_dirty [] h))

  pub waves_on : (n : ℕ) (w : Work) → Reaches M w → (On M) (waves M n w)
  unfolding waves
  waves_on zero w h = went h
  waves_on (suc n) w h = both (On M) _ (went h) (then (wave_on w h) (λ x q. q) (λ x q. waves_on n x q))

  pub dual_on : (n : ℕ) (dec inc : List Bool) (v : ℕ) (w : Work) (changed : Bool) → Reaches M w → Reaches M (dual_from M n dec inc v w changed).0
  unfolding dual_from
  dual_on zero dec inc v w changed h = h
  dual_on (suc n) dec inc v w changed h = dual_on n dec inc (suc v) _ _ (fixes dec inc v changed h)

  pub after_on : (w : Work) → Reaches M w → Reaches M (after_waves M w).0
  unfolding after_waves dual_step dual_fix
  after_on w h =
      let Q : Work × Bool → Type 0 = λ x. Reaches M x.0 in
      let t = tighten_kept M marking rowing w h in
      both Q _ (both Q _ (dual_on (length M.lower) _ _ 0 _ false t) t) h

  pub rounds_on : (n : ℕ) (w : Work) → Reaches M w → (On M) (rounds M n w)
  unfolding rounds
  rounds_on zero w h = went h
  rounds_on (suc n) w h =
      then (waves_on (max_waves M.params - w.counts.passes) w h) (λ x q. q)
      (λ x q. both (On M) _ (rounds_on n _ (after_on x q)) (went (after_on x q)))

module _ (M : Model) where
  pub going : Going M (I M)
  going r w v o x g h = goes_kept M (rowing M) g h

  pub ended_answer : (s : Final) {n : ℕ} → Ends (I M) n s → Answered M (answer_of M s)
  unfolding answer_of
  ended_answer (fails k) (failed q w o e h) = found_infeasible w e h
  ended_answer (final w o) (ended h) = reduced_to w o h

  pub finished : (s : Step) → Each (Reaches M) s → Answered M (finish M s)
  unfolding finish
  finished (stop k) (stopped w e h) = found_infeasible w e h
  finished (next w) (went h) = ended_answer _ (from_ends M going (length M.rhs) 0 (final w no_out) (ended h))

  pub started : (ls hs : List Float) (s : Rows) → crossed M.lower M.upper ≡ false → round_from M (length M.lower) 0 (bounds M.lower M.upper) ≡ bounds ls hs
      → read_from M (length M.rhs) 0 (rows_are [] [] [] 0) ≡ s → Answered M (start M ls hs s)
  unfolding start
  started ls hs (false_row n) c b e = before n
  started ls hs (rows_are rows queue dirty n) c b e = finished _ (rounds_on M M.params.max_rounds _ (begins c b e))

  pub rounded : (b : Bounds) → crossed M.lower M.upper ≡ false → round_from M (length M.lower) 0 (bounds M.lower M.upper) ≡ b → Answered M (after_rounding M b)
  unfolding after_rounding
  rounded cross c e = before 0
  rounded (bounds ls hs) c e = started ls hs _ c e refl

  pub answer_reached : Answered M (presolve M)
  unfolding presolve
  answer_reached = taking (Answered M) _ (λ t. before 0) (λ f. rounded _ f refl)
