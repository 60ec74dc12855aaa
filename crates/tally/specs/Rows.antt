-- A row's turn counts two a term and two at most, a wave that for each queued row; and no more rows are queued than there are.
use Prim.Native.Nat.{ℕ, zero, suc, ◌+◌, ◌*◌, ◌≤◌}
use Rattle.std.proofs.Common.{arith, length-set}
use Rattle.std.proofs.Math.Path.{refl}
use Rattle.std.specs.Prelude.{Bool, true, false, get_or, set, Float}
use mathlib.Core.List.{List, [], ◌∷◌}
use Rattle.std.proofs.Math.ListN.{length}
use Rattle.tolerances.specs.Tol.{Term, term}
use Rattle.definition.specs.Model.{Model, nnz, Row, as_written}
use Rattle.definition.specs.Work.{Work, with_marks, Step, next, no_row, drop_row}
use Rattle.definition.specs.Folds.{fold_term, fold_fixed}
use Rattle.definition.specs.Singles.{empty_row_check, singleton_drop, singleton_row}
use Rattle.definition.specs.Forcing.{fix_all}
use Rattle.definition.specs.Wave.{several_terms, by_count, wave_row, wave_rows, wave, waves}
use Rattle.definition.specs.Tighten.{set_coeff}
use Rattle.definition.specs.Choices.{both}
use Rattle.rows_kept.specs.Steps.{Each, stopped, went}
use Rattle.rows_kept.proofs.Steps.{then}
use Rattle.rows_kept.specs.Kept.{folded}
use Rattle.rows_kept.specs.RowSteps.{RowKept}
use Rattle.rows_kept.proofs.RowSteps.{length_swap, changed_kept}
use Rattle.rows_kept.proofs.Sizes.{written_short}
use Rattle.tally.specs.Tallied.{RowShort, Tallied, drops_one, recount, more, fewer, each_more, begin_wave, queue_fits, take_one, change_one}
use Rattle.tally.specs.Bounds.{implied_all, singleton_one, fix_all_lem}

-- what a row, and a wave of 8192 rows, counts at most
abbrev pub per_row : ℕ
per_row = 2 * 65536 + 2

abbrev pub per_wave : ℕ
per_wave = 8192 * per_row

-- every row has few terms as written
abbrev pub AllShort : Model → Type 0
AllShort M = (r : ℕ) → nnz M r ≤ 65536

-- to fold a row or to rewrite it adds no term
pub short_kept : (M : Model) → AllShort M → (r : ℕ) → RowKept M r (Unit {0}) RowShort
unfolding as_written fold_term set_coeff
short_kept M h r =
    record {
      folding =
          record {
            as_written_lem = omega (arith, written_short M r, h r);
            removes = λ row i l q. omega (arith, q, length_swap row.terms i);
            folds = λ row i w l q. omega (arith, q, length_swap row.terms i);
            relaxes = λ row b c l u e q. q;
          };
      rewriting = record { coeffs = λ g row i v a c q. omega (arith, q, length-set row.terms i (term v a)); rebinds = λ g row b l u q. q; touches = λ g row q. q };
      guards = λ row f e s q. tt;
    }

module _ (M : Model) {n k : ℕ} where
  drop_one : {b : ℕ} (r : ℕ) (row : Row) (w : Work) → RowShort row → Tallied n k b w → Tallied n k (suc b) (drop_row r row w)
  unfolding drop_row
  drop_one r row w s p = change_one r _ s (recount drops_one p)

  empty_one : {b : ℕ} (r : ℕ) (row : Row) (w : Work) → RowShort row → Tallied n k b w → Each (Tallied n k (suc b)) (empty_row_check M r row w)
  unfolding empty_row_check
  empty_one {b} r row w s p = both (Each (Tallied n k (suc b))) _ (stopped w refl (more (omega arith) p)) (went (drop_one r row w s p))

  singleton_drop_lem : {b : ℕ} (r : ℕ) (row : Row) (v : ℕ) (a blo bhi : Float) (w : Work) → RowShort row → Tallied n k b w → Tallied n k (suc b) (singleton_drop M r row v a blo bhi w)
  unfolding singleton_drop
  singleton_drop_lem {b} r row v a blo bhi w s p = both (Tallied n k (suc b)) _ (drop_one r row w s p) (more (omega arith) p)

  singleton_two : {b : ℕ} (r : ℕ) (row : Row) (t : Term) (w : Work) → RowShort row → Tallied n k b w → Each (Tallied n k (suc (suc b))) (singleton_row M r row t w)
  unfolding singleton_row
  singleton_two r row t w s p =
      then (singleton_one M r row t.var _ _ _ w p) (λ x q. more (omega arith) q) (λ x q. went (singleton_drop_lem r row t.var _ _ _ x s q))

  several_all : {b c : ℕ} (r : ℕ) (row : Row) (w : Work) → b + per_row ≤ c → RowShort row → Tallied n k b w → Each (Tallied n k c) (several_terms M r row w)
  unfolding several_terms
  several_all {b} {c} r row w h s p =
      let E : Step → Type 0 = Each (Tallied n k c) in
      let fixes : (minCorner : Bool) → E (next (drop_row r row (fix_all M minCorner w row.terms w))) =
      λ minCorner. went (more {a = suc (b + 65536)} (omega arith) (drop_one r row _ s (fix_all_lem M minCorner w row.terms w (omega arith) p))) in
      both E _ (stopped w refl (more (omega arith) p))
      (both E _ (fixes true)
      (both E _ (fixes false)
      (both E _ (went (more (omega arith) (drop_one r row w s p))) (implied_all M r row _ row.terms w (omega arith) p))))

  count_all_lem : {b c : ℕ} (r : ℕ) (row : Row) (ts : List Term) (w : Work) → b + per_row ≤ c → RowShort row → Tallied n k b w → Each (Tallied n k c) (by_count M r row ts w)
  unfolding by_count
  count_all_lem r row [] w h s p = each_more (omega arith) (empty_one r row w s p)
  count_all_lem r row (t ∷ []) w h s p = each_more (omega arith) (singleton_two r row t w s p)
  count_all_lem r row (t ∷ u ∷ ts) w h s p = several_all r row w h s p

module _ (M : Model) (A : AllShort M) {n : ℕ} where
  row_all : {k b : ℕ} (r : ℕ) (w : Work) → Tallied n (suc k) b w → Each (Tallied n k (b + per_row)) (wave_row M r w)
  unfolding wave_row
  row_all {k} {b} r w p =
      let w1 : Work = with_marks (set w.dirty r false) w.coeff_dirty w.queue w in
      let q : Tallied n k b w1 = take_one r p in
      let s : RowShort (fold_fixed M r w1 (get_or w.rows r no_row)) = changed_kept M (short_kept M A r) (folded w1) (p.short r) in
      both (Each (Tallied n k (b + per_row))) _ (count_all_lem M r _ _ _ (omega arith) s (change_one r _ s q)) (went (more (omega arith) q))

  rows_all : {k b c : ℕ} (rs : List ℕ) (w : Work) → b + length rs * per_row ≤ c → Tallied n (k + length rs) b w → Each (Tallied n k c) (wave_rows M rs w)
  unfolding wave_rows
  rows_all [] w h p = went (more (omega arith) (fewer (omega arith) p))
  rows_all {k} {b} (r ∷ rs) w h p =
      then (row_all {k = k + length rs} r w (fewer (omega arith) p)) (λ x q. more (omega arith) (fewer (omega arith) q)) (λ x q. rows_all {b = b + per_row} rs x (omega arith) q)

  wave_all : {b : ℕ} → n ≤ 8192 → (w : Work) → Tallied n 0 b w → Each (Tallied n 0 (b + per_wave)) (wave M w)
  unfolding wave
  wave_all l w p = rows_all w.queue _ (omega (arith, queue_fits p)) (begin_wave p)

  pub waves_all : {b c : ℕ} → n ≤ 8192 → (m : ℕ) (w : Work) → b + m * per_wave ≤ c → Tallied n 0 b w → Each (Tallied n 0 c) (waves M m w)
  unfolding waves
  waves_all l zero w h p = went (more (omega arith) p)
  waves_all {b} {c} l (suc m) w h p =
      both (Each (Tallied n 0 c)) _ (went (more (omega arith) p))
      (then (wave_all l w p) (λ x q. more (omega arith) q) (λ x q. waves_all {b = b + per_wave} l m x (omega arith) q))
