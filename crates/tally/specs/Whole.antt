-- The whole of presolve: rows read, rounds, rows out. Each row read, and each that goes out, counts one at most.
use Prim.Native.Nat.{ℕ, zero, suc, ◌+◌, ◌-◌, ◌*◌, ◌≤◌}
use native.Mathlib.Omega.{arith}
use Rattle.std.proofs.Common.{zero-add, add-suc, suc-add, ap}
use Rattle.std.proofs.Math.Nat.{add-zero}
use Rattle.std.specs.Prelude.{◌≡◌, refl, Bool, length, Float}
use Rattle.std.proofs.Math.Path.{subst}
use Rattle.std.proofs.Math.Bool.{true, false}
use mathlib.Core.List.{List, [], ◌∷◌, ◌++◌}
use Rattle.std.proofs.Math.Option.{Option, none, some}
use Rattle.std.proofs.Math.ListN.{length-append}
use Rattle.definition.specs.declared.Counts.{Counts}
use Rattle.definition.specs.Params.{max_waves}
use Rattle.definition.specs.Model.{Model, Row, as_written, counts, Reduced, Answer, infeasible, done}
use Rattle.definition.specs.Work.{Work, Step, stop, next, drop_row}
use Rattle.definition.specs.Begin.{Bounds, cross, bounds, Rows, false_row, rows_are, add_row, read_row, read_from}
use Rattle.definition.specs.Rounds.{after_waves, rounds}
use Rattle.definition.specs.Emit.{Out, Final, fails, final, out_one, out_from, answer_of}
use Rattle.definition.specs.Presolve.{finish, start, after_rounding, presolve}
use Rattle.definition.specs.Choices.{both}
use Rattle.rows_kept.specs.Steps.{Each, stopped, went}
use Rattle.rows_kept.proofs.Steps.{then}
use Rattle.rows_kept.specs.Outs.{Goes, skipped, before, missed, emptied, given, rewrites}
use Rattle.rows_kept.proofs.Outs.{one_goes}
use Rattle.rows_kept.proofs.AllRows.{snoc_all}
use Rattle.view.specs.Inv.{marked}
use Rattle.tally.specs.Tallied.{AtMost, at_most, drops_one, RowShort, TallyHolds, Tallied, more}
use Rattle.tally.specs.Bounds.{dual_step_lem}
use Rattle.tally.specs.Rows.{per_wave, AllShort, short_kept, waves_all}
use Rattle.tally.specs.Coefficients.{tighten_all}

-- what both steps after the waves, a round of 30 waves with them, and all of presolve count at most
abbrev pub per_steps : ℕ
per_steps = 8192 * 65536 + 4096

abbrev pub per_round : ℕ
per_round = 30 * per_wave + per_steps

abbrev pub in_all : ℕ
in_all = 3 * per_round + 2 * 8192

-- ---- the start: the first r rows read
data Begun (r : ℕ) : Rows → Type 0 where
  fell : {m : ℕ} → m ≤ r → Begun r (false_row m)
  read : {rows : List Row} {queue : List ℕ} {dirty : List Bool} {m : ℕ} → TallyHolds r 0 r (counts m 0 0 0 0) dirty queue rows → Begun r (rows_are rows queue dirty m)

marked_true : (d : List Bool) → marked (d ++ (true ∷ [])) ≡ suc (marked d)
unfolding marked
marked_true [] = refl
marked_true (true ∷ d) = ap suc (marked_true d)
marked_true (false ∷ d) = marked_true d

marked_false : (d : List Bool) → marked (d ++ (false ∷ [])) ≡ marked d
unfolding marked
marked_false [] = refl
marked_false (true ∷ d) = ap suc (marked_false d)
marked_false (false ∷ d) = marked_false d

one_more : {r : ℕ} {c e : Counts} {d : List Bool} {q : List ℕ} {rs : List Row} (b : Bool) (p : List ℕ) (x : Row) → AtMost (suc r) e → length p ≤ marked (d ++ (b ∷ [])) → RowShort x
    → TallyHolds r 0 r c d q rs → TallyHolds (suc r) 0 (suc r) e (d ++ (b ∷ [])) p (rs ++ (x ∷ []))
one_more {r} {d = d} {rs = rs} b p x a m s h =
    record {
      counts = a;
      dirties = omega (arith, h.dirties, length-append d (b ∷ []));
      room = omega (arith, m);
      rowses = omega (arith, h.rowses, length-append rs (x ∷ []));
      short = snoc_all (λ (i : ℕ) (y : Row). RowShort y) (λ i. omega arith) rs r x h.rowses h.short s;
    }

module _ (M : Model) (A : AllShort M) where
  as_written_lem : (r : ℕ) → RowShort (as_written M r)
  as_written_lem r = (short_kept M A r).folding.as_written_lem

  add_row_lem : (r : ℕ) (rows : List Row) (queue : List ℕ) (dirty : List Bool) (m : ℕ) (o : Option Bool) → TallyHolds r 0 r (counts m 0 0 0 0) dirty queue rows
      → Begun (suc r) (add_row M r rows queue dirty m o)
  unfolding add_row
  add_row_lem r rows queue dirty m none h =
      read (one_more true (queue ++ (r ∷ [])) _ (at_most (omega arith) h.counts) (omega (arith, h.room, marked_true dirty, length-append queue (r ∷ []))) (as_written_lem r) h)
  add_row_lem r rows queue dirty m (some true) h = read (one_more false queue _ (drops_one h.counts) (omega (arith, h.room, marked_false dirty)) (as_written_lem r) h)
  add_row_lem r rows queue dirty m (some false) h = fell {m = m} (omega (arith, h.counts.dropped))

  read_row_lem : (r : ℕ) (s : Rows) → Begun r s → Begun (suc r) (read_row M r s)
  unfolding read_row
  read_row_lem r (false_row m) (fell h) = fell {m = m} (omega arith)
  read_row_lem r (rows_are rows queue dirty m) (read h) = add_row_lem r rows queue dirty m _ h

  read_from_lem : (m r : ℕ) (s : Rows) → Begun r s → Begun (r + m) (read_from M m r s)
  unfolding read_from
  read_from_lem zero r s h = rw add-zero h
  read_from_lem (suc m) r s h = rw (add-suc, ← suc-add) (read_from_lem m (suc r) _ (read_row_lem r s h))

  begun : Begun (length M.rhs) (read_from M (length M.rhs) 0 (rows_are [] [] [] 0))
  unfolding marked
  begun =
      let z : TallyHolds 0 0 0 (counts 0 0 0 0 0) [] [] [] =
      record {
        counts = record { dropped = omega arith; tightened = omega arith; fixed = omega arith; rewrote = omega arith };
        dirties = refl;
        room = omega arith;
        rowses = refl;
        short = λ r. omega arith;
      } in
      subst (λ (i : ℕ). Begun i (read_from M (length M.rhs) 0 (rows_are [] [] [] 0))) (zero-add (length M.rhs)) (read_from_lem (length M.rhs) 0 _ (read z))

-- ---- rounds
module _ (M : Model) (A : AllShort M) {n : ℕ} (l : n ≤ 8192) (v : length M.lower ≤ 4096) (t : max_waves M.params ≤ 30) where
  steps_all : {b : ℕ} (w : Work) → Tallied n 0 b w → Tallied n 0 (b + per_steps) (after_waves M w).0
  unfolding after_waves
  steps_all {b} w p =
      both (λ (x : Work × Bool). Tallied n 0 (b + per_steps) x.0) _ (dual_step_lem M {b = b + 8192 * 65536} _ (omega arith) (tighten_all M A w (omega arith) p)) (more (omega arith) p)

  rounds_all : {b c : ℕ} (m : ℕ) (w : Work) → b + m * per_round ≤ c → Tallied n 0 b w → Each (Tallied n 0 c) (rounds M m w)
  unfolding rounds
  rounds_all zero w h p = went (more (omega arith) p)
  rounds_all {b} {c} (suc m) w h p =
      then (waves_all M A {c = b + 30 * per_wave} l (max_waves M.params - w.counts.passes) w (omega arith) p) (λ x q. more (omega arith) q)
      (λ x q. both (Each (Tallied n 0 c)) _ (rounds_all {b = b + 30 * per_wave + per_steps} m _ (omega arith) (steps_all x q)) (went (more (omega arith) (steps_all x q))))

-- ---- rows out
data OutAtMost (b : ℕ) : Final → Type 0 where
  failing : {c : Counts} → AtMost b c → OutAtMost b (fails c)
  ending : {w : Work} {o : Out} → AtMost b w.counts → OutAtMost b (final w o)

goes_one : {M : Model} {b r : ℕ} {w : Work} {o : Out} {s : Final} → AtMost b w.counts → Goes M r w o s → OutAtMost (suc b) s
unfolding drop_row
goes_one p (skipped t) = ending (at_most (omega arith) p)
goes_one p (before t a) = ending (at_most (omega arith) p)
goes_one p missed = failing (at_most (omega arith) p)
goes_one p (emptied t a) = ending (drops_one p)
goes_one p (given t a) = ending (at_most (omega arith) p)
goes_one p (rewrites t a c f) = ending (at_most (omega arith) p)

module _ (M : Model) where
  out_one_lem : {b : ℕ} (r : ℕ) (s : Final) → OutAtMost b s → OutAtMost (suc b) (out_one M r s)
  unfolding out_one
  out_one_lem r (fails k) (failing p) = failing (at_most (omega arith) p)
  out_one_lem r (final w o) (ending p) = goes_one p (one_goes M r w o)

  out_from_lem : {b c : ℕ} (m r : ℕ) (s : Final) → b + m ≤ c → OutAtMost b s → OutAtMost c (out_from M m r s)
  unfolding out_from
  out_from_lem zero r (fails k) h (failing p) = failing (at_most (omega arith) p)
  out_from_lem zero r (final w o) h (ending p) = ending (at_most (omega arith) p)
  out_from_lem {b = b} (suc m) r s h p = out_from_lem {b = suc b} m (suc r) _ (omega arith) (out_one_lem r s p)

-- ---- the answer
pub data AnswerAtMost (b : ℕ) : Answer → Type 0 where
  gave_up : {c : Counts} → AtMost b c → AnswerAtMost b (infeasible c)
  found : {x : Reduced} → AtMost b x.counts → AnswerAtMost b (done x)

zeros : {b : ℕ} (m : ℕ) → m ≤ b → AtMost b (counts m 0 0 0 0)
zeros m h = record { dropped = h; tightened = omega arith; fixed = omega arith; rewrote = omega arith }

module _ (M : Model) where
  answered : {b : ℕ} (s : Final) → OutAtMost b s → AnswerAtMost b (answer_of M s)
  unfolding answer_of
  answered (fails c) (failing p) = gave_up p
  answered (final w o) (ending p) = found p

  finished : {n b c : ℕ} (s : Step) → b + length M.rhs ≤ c → Each (Tallied n 0 b) s → AnswerAtMost c (finish M s)
  unfolding finish
  finished (stop k) h (stopped w e p) = gave_up (at_most (omega arith) (subst (AtMost _) e p.counts))
  finished (next w) h (went p) = answered _ (out_from_lem M (length M.rhs) 0 _ h (ending p.counts))

module _ (M : Model) (A : AllShort M) (l : length M.rhs ≤ 8192) (v : length M.lower ≤ 4096) (t : max_waves M.params ≤ 30) (u : M.params.max_rounds ≤ 3) where
  started : (ls hs : List Float) (s : Rows) → Begun (length M.rhs) s → AnswerAtMost in_all (start M ls hs s)
  unfolding start
  started ls hs (false_row m) (fell h) = gave_up (zeros m (omega arith))
  started ls hs (rows_are rows queue dirty m) (read h) =
      finished M {b = 3 * per_round + 8192} _ (omega arith) (rounds_all M A l v t M.params.max_rounds _ (omega arith) h)

  after_rounding_lem : (b : Bounds) → AnswerAtMost in_all (after_rounding M b)
  unfolding after_rounding
  after_rounding_lem cross = gave_up (zeros 0 (omega arith))
  after_rounding_lem (bounds ls hs) = started ls hs _ (begun M A)

  pub whole : AnswerAtMost in_all (presolve M)
  unfolding presolve
  whole = both (AnswerAtMost in_all) _ (gave_up (zeros 0 (omega arith))) (after_rounding_lem _)
