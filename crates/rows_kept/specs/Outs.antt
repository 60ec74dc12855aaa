-- The loop over the rows that go out: the ways that a row goes, and the walk over them.
use Prim.Native.Nat.{ℕ, suc}
use Rattle.std.specs.Prelude.{◌≡◌, true, false, ◌++◌, get_or}
use Rattle.floats.specs.Num.{is_finite}
use Rattle.definition.specs.declared.Counts.{Counts}
use Rattle.definition.specs.Model.{Model, Row}
use Rattle.definition.specs.Work.{Work, with_row, no_row, drop_row, trivial}
use Rattle.definition.specs.Folds.{fold_fixed}
use Rattle.definition.specs.Bindings.{rewritten_bound}
use Rattle.definition.specs.Emit.{sort_terms, Out, Final, fails, final, keep_row, emit_written, emit_rewritten}

-- row r as it stands, and folded once more
abbrev pub row_at : ℕ → Work → Row
row_at r w = get_or w.rows r no_row

abbrev pub last_fold : Model → ℕ → Work → Row
last_fold M r w = fold_fixed M r w (row_at r w)

-- a row that goes out with terms left, folded once more
abbrev pub after_fold : Model → ℕ → Work → Work
after_fold M r w = with_row r (last_fold M r w) w

-- what becomes of row r
pub data Goes (M : Model) (r : ℕ) (w : Work) (o : Out) : Final → Type 0 where
  skipped : trivial M r ≡ true → Goes M r w o (final w o)
  before : trivial M r ≡ false → (row_at r w).alive ≡ false → Goes M r w o (final w (keep_row r o))
  missed : Goes M r w o (fails w.counts)
  emptied : trivial M r ≡ false → (row_at r w).alive ≡ true → Goes M r w o (final (drop_row r (last_fold M r w) (after_fold M r w)) (keep_row r o))
  given : trivial M r ≡ false → (row_at r w).alive ≡ true → Goes M r w o (final (after_fold M r w) (emit_written M r o))
  rewrites : trivial M r ≡ false → (row_at r w).alive ≡ true → (last_fold M r w).touched ≡ true → is_finite (rewritten_bound M (last_fold M r w) r) ≡ true
      → Goes M r w o (final (after_fold M r w) (emit_rewritten M r (rewritten_bound M (last_fold M r w) r) (sort_terms ((last_fold M r w).terms ++ (last_fold M r w).folded)) o))

-- I holds of what is out so far, or of a state whose counts the loop failed with
pub data Ends (I : ℕ → Work → Out → Type 0) (r : ℕ) : Final → Type 0 where
  failed : {k : Counts} (q : ℕ) (w : Work) (o : Out) → w.counts ≡ k → I q w o → Ends I r (fails k)
  ended : {w : Work} {o : Out} → I r w o → Ends I r (final w o)

abbrev pub Going : Model → (ℕ → Work → Out → Type 0) → Type 0
Going M I = (r : ℕ) (w v : Work) (o x : Out) → Goes M r w o (final v x) → I r w o → I (suc r) v x
