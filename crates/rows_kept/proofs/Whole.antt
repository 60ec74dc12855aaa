-- The whole of presolve: how it starts, and what a property of the state and one of what is out say of the answer.
use Prim.Native.Nat.{ℕ, zero, suc, ◌+◌, ◌≤◌}
use native.Mathlib.Omega.{arith}
use Rattle.std.proofs.Math.Nat.{add-zero}
use Rattle.std.proofs.Common.{add-suc, suc-add, zero-add, sym, subst}
use Rattle.std.specs.Prelude.{◌≡◌, Bool, true, false, length, Float}
use Rattle.std.proofs.Math.Path.{refl}
use mathlib.Core.List.{List, []}
use Rattle.std.proofs.Math.Option.{Option, none, some}
use Rattle.tolerances.specs.Tol.{says_true}
use Rattle.definition.specs.declared.Counts.{Counts}
use Rattle.definition.specs.Params.{max_waves}
use Rattle.definition.specs.Model.{Model, Row, counts, Reduced, done}
use Rattle.definition.specs.Work.{Work, Step, stop, next, trivial}
use Rattle.definition.specs.Begin.{Bounds, cross, bounds, Rows, false_row, rows_are, round_var, round_from, add_row, read_row, read_from}
use Rattle.definition.specs.Emit.{Out, no_out, Final, fails, final, out_from, answer_of}
use Rattle.definition.specs.Presolve.{finish, start, after_rounding, presolve}
use Rattle.definition.specs.Choices.{both, taking}
use Rattle.rows_kept.specs.Steps.{Each, stopped, went}
use Rattle.rows_kept.specs.Waves.{Capped}
use Rattle.rows_kept.proofs.AllWaves.{rounds_kept}
use Rattle.rows_kept.specs.Outs.{Goes, Ends, failed, ended}
use Rattle.rows_kept.proofs.Outs.{from_ends, goes_kept, goes_passes}
use Rattle.rows_kept.specs.Whole.{Emitted, From, HeldThroughout, I, Read, ReadR, Rounded, RoundedB, as_given, crosses}
use Rattle.rows_kept.specs.Whole.{drops, fails_at, found, gave_up, queues, reads, reduced, rounded, rounds_to, unread}

module _ (M : Model) where
  pub round_var_lem : (v : ℕ) (b : Bounds) → RoundedB M b → RoundedB M (round_var M v b)
  unfolding round_var
  round_var_lem v cross h = h
  round_var_lem v (bounds ls hs) (rounds_to h) =
      taking (RoundedB M) _ (λ i. both (RoundedB M) _ crosses (rounds_to (rounded v i h))) (λ i. rounds_to h)

  pub round_from_lem : (n v : ℕ) (b : Bounds) → RoundedB M b → RoundedB M (round_from M n v b)
  unfolding round_from
  round_from_lem zero v b h = h
  round_from_lem (suc n) v b h = round_from_lem n (suc v) _ (round_var_lem v b h)

  pub add_row_lem : (r : ℕ) (rows : List Row) (queue : List ℕ) (dirty : List Bool) (n : ℕ) (o : Option Bool) → says_true o ≡ trivial M r → Read M r rows queue n
      → ReadR M (suc r) (add_row M r rows queue dirty n o)
  unfolding add_row says_true
  add_row_lem r rows queue dirty n none e h = reads (queues (sym e) h)
  add_row_lem r rows queue dirty n (some true) e h = reads (drops (sym e) h)
  add_row_lem r rows queue dirty n (some false) e h = fails_at

  pub read_row_lem : (r : ℕ) (s : Rows) → ReadR M r s → ReadR M (suc r) (read_row M r s)
  unfolding read_row trivial
  read_row_lem r (false_row n) h = fails_at
  read_row_lem r (rows_are rows queue dirty n) (reads h) = add_row_lem r rows queue dirty n _ refl h

  pub read_from_lem : (n r : ℕ) (s : Rows) → ReadR M r s → ReadR M (r + n) (read_from M n r s)
  unfolding read_from
  read_from_lem zero r s h = rw add-zero h
  read_from_lem (suc n) r s h = rw (add-suc, ← suc-add) (read_from_lem n (suc r) _ (read_row_lem r s h))

pub state_only : {M : Model} {P : Work → Type 0} → HeldThroughout M P → Emitted M P (λ r w o. Unit {0})
state_only H = record { held = H; none = λ w p. tt; goes = λ r w v o x p q g h. tt }

module _ (M : Model) {P : Work → Type 0} {J : ℕ → Work → Out → Type 0} (E : Emitted M P J) where
  pub going : (r : ℕ) (w v : Work) (o x : Out) → Goes M r w o (final v x) → (I M E) r w o → (I M E) (suc r) v x
  going r w v o x h i =
      let p : P v = goes_kept M E.held.kept.rowing h i.holds in
      record { capped = omega (arith, goes_passes h, i.capped); holds = p; out = E.goes r w v o x i.holds p h i.out }

  pub answered : (s : Final) → Ends (I M E) (length M.rhs) s → From M P J (answer_of M s)
  unfolding answer_of
  answered (fails k) (failed q w o e i) = gave_up (subst (λ (c : Counts). c.passes ≤ max_waves M.params) e i.capped)
  answered (final w o) (ended i) = found w o i.capped i.holds i.out

  pub finished : (s : Step) → Each (Capped M P) s → From M P J (finish M s)
  unfolding finish
  finished (stop k) (stopped w e p) = gave_up (subst (λ (c : Counts). c.passes ≤ max_waves M.params) e p.capped)
  finished (next w) (went p) =
      answered _
      (subst (λ (n : ℕ). Ends (I M E) n (out_from M (length M.rhs) 0 (final w no_out))) (zero-add (length M.rhs))
      (from_ends M going (length M.rhs) 0 (final w no_out) (ended (record { capped = p.capped; holds = p.holds; out = E.none w p.holds }))))

  pub started : (ls hs : List Float) (s : Rows) → Rounded M ls hs → ReadR M (length M.rhs) s → From M P J (start M ls hs s)
  unfolding start
  started ls hs (false_row n) b h = gave_up {k = counts n 0 0 0 0} (omega arith)
  started ls hs (rows_are rows queue dirty n) b (reads h) =
      finished _
      (rounds_kept M E.held.kept E.held.passes M.params.max_rounds _ (record { holds = E.held.begins ls hs rows queue dirty n b h; capped = omega arith }))

  pub after_rounding_lem : (b : Bounds) → RoundedB M b → From M P J (after_rounding M b)
  unfolding after_rounding
  after_rounding_lem cross h = gave_up {k = counts 0 0 0 0 0} (omega arith)
  after_rounding_lem (bounds ls hs) (rounds_to h) =
      started ls hs _ h
      (subst (λ (n : ℕ). ReadR M n (read_from M (length M.rhs) 0 (rows_are [] [] [] 0))) (zero-add (length M.rhs)) (read_from_lem M (length M.rhs) 0 (rows_are [] [] [] 0) (reads unread)))

  pub whole : From M P J (presolve M)
  unfolding presolve
  whole = both (From M P J) _ (gave_up {k = counts 0 0 0 0 0} (omega arith)) (after_rounding_lem _ (round_from_lem M (length M.lower) 0 (bounds M.lower M.upper) (rounds_to as_given)))

  -- as it is used: what the end says of an answer that is not infeasible
  pub of_done : (T : Reduced → Type 0) → ((w : Work) (o : Out) → P w → J (length M.rhs) w o → T (reduced M w o)) → {R : Reduced} → presolve M ≡ done R → T R
  of_done T f e = from_done (subst (From M P J) e whole)
    where
      from_done : {R : Reduced} → From M P J (done R) → T R
      from_done (found w o c p j) = f w o p j
