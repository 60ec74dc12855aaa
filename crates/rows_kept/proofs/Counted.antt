-- The first count is the number of rows that are not alive, through every step; so in the end it is the number of rows with no entry.
use Prim.Native.Nat.{ℕ, zero, suc, ◌+◌, ◌<◌}
use Rattle.std.proofs.Common.{arith, ◌∙◌, get_or-set_other}
use Rattle.std.proofs.Math.Decide.{ℕ_discrete, dec_lt}
use Rattle.std.specs.Prelude.{◌≡◌, Bool, set}
use Rattle.std.proofs.Math.Path.{refl, sym, ap, subst}
use Rattle.std.proofs.Math.Bool.{true, false, not}
use mathlib.Core.List.{List, [], ◌∷◌, ◌++◌}
use Rattle.std.proofs.Math.ListN.{length, get_or, length-append, length-set, get_or-append, get_or-eq_default}
use Rattle.std.proofs.Math.Seq.{get_or_at}
use Rattle.floats.specs.Num.{choose}
use Rattle.definition.specs.Model.{Model, Row, with_alive, as_written, Emit}
use Rattle.definition.specs.Work.{Work, with_row, no_row, drop_row, trivial}
use Rattle.definition.specs.Emit.{Out, final}
use Rattle.rows_kept.specs.Statements.{entries_of, count_below, is_none, no_entry}
use Rattle.definition.specs.Choices.{true≢false}
use Rattle.rows_kept.specs.Kept.{Changed, folded, Kept}
use Rattle.rows_kept.proofs.RowSteps.{changed_alive}
use Rattle.rows_kept.proofs.Waves.{get_set}
use Rattle.rows_kept.specs.Outs.{last_fold, Goes, skipped, before, emptied, given, rewrites}
use Rattle.rows_kept.specs.Whole.{Read, unread, queues, drops, HeldThroughout, Emitted}
use Rattle.rows_kept.proofs.Lists.{entries_other, entries_own, count_same, count_more}
use Rattle.rows_kept.specs.Fates.{Fates}
use Rattle.rows_kept.proofs.Fates.{none_settled, goes_settled}
use Rattle.rows_kept.specs.Counted.{Begins, Counted, Tally, dead}

-- ---- rows, one of them changed
pub within : (rs : List Row) (r : ℕ) → (get_or rs r no_row).alive ≡ true → r < length rs
within [] r h = true≢false h refl
within (y ∷ ys) zero h = omega arith
within (y ∷ ys) (suc r) h = omega (arith, within ys r h)

pub alive_same : (rs : List Row) (r : ℕ) (x : Row) → (get_or rs r no_row).alive ≡ true → x.alive ≡ true → (q : ℕ) → (get_or (set rs r x) q no_row).alive ≡ (get_or rs q no_row).alive
alive_same [] r x h k q = refl
alive_same (y ∷ ys) zero x h k zero = k ∙ sym h
alive_same (y ∷ ys) zero x h k (suc q) = refl
alive_same (y ∷ ys) (suc r) x h k zero = refl
alive_same (y ∷ ys) (suc r) x h k (suc q) = alive_same ys r x h k q

module _ (M : Model) where
  pub untouched : {w v : Work} → v.rows ≡ w.rows → v.counts.rowsDropped ≡ w.counts.rowsDropped → Counted M w → Counted M v
  untouched e c h =
      record {
        rows = ap length e ∙ h.rows;
        count = c ∙ h.count ∙ ap (λ (rs : List Row). count_below (length M.rhs) (dead rs)) (sym e);
        trivials = λ q t. ap (λ (rs : List Row). (get_or rs q no_row).alive) e ∙ h.trivials q t;
      }

  pub changes : (w : Work) (r : ℕ) (row : Row) → (get_or w.rows r no_row).alive ≡ true → Changed M r (get_or w.rows r no_row) row → Counted M w → Counted M (with_row r row w)
  changes w r row a c h =
      let s : (q : ℕ) → (get_or (set w.rows r row) q no_row).alive ≡ (get_or w.rows q no_row).alive = alive_same w.rows r row a (changed_alive M r c a) in
      record {
        rows = length-set w.rows r row ∙ h.rows;
        count = h.count ∙ sym (count_same (length M.rhs) (dead w.rows) _ (λ q k. ap not (s q)));
        trivials = λ q t. s q ∙ h.trivials q t;
      }

  pub drop_alive : (rs : List Row) (r : ℕ) (x : Row) → x.alive ≡ false → (q : ℕ) → (get_or rs q no_row).alive ≡ false → (get_or (set rs r x) q no_row).alive ≡ false
  drop_alive [] r x h q k = refl
  drop_alive (y ∷ ys) zero x h zero k = h
  drop_alive (y ∷ ys) zero x h (suc q) k = k
  drop_alive (y ∷ ys) (suc r) x h zero k = k
  drop_alive (y ∷ ys) (suc r) x h (suc q) k = drop_alive ys r x h q k

  pub dropped : (w : Work) (r : ℕ) (row : Row) → get_or w.rows r no_row ≡ row → row.alive ≡ true → Counted M w → Counted M (drop_row r row w)
  unfolding drop_row
  dropped w r row g a h =
      let b : (get_or w.rows r no_row).alive ≡ true = ap (λ (x : Row). x.alive) g ∙ a in
      record {
        rows = length-set w.rows r _ ∙ h.rows;
        count =
            ap suc h.count
            ∙ sym
            (count_more (length M.rhs) r (dead w.rows) (dead (set w.rows r (with_alive false row))) (omega (arith, within w.rows r b, h.rows)) (ap not b)
            (ap (λ (x : Row). not x.alive) (get_set w.rows r _ b))
            (λ q d. ap (λ (x : Row). not x.alive) (get_or-set_other w.rows r q (with_alive false row) no_row d)));
        trivials = λ q t. drop_alive w.rows r (with_alive false row) refl q (h.trivials q t);
      }

  pub kept : Kept M (Counted M)
  kept =
      record {
        bounding =
            record {
              marking = record { marks = λ w d c q p. untouched {w = w} refl refl p; counted = λ w a b c p. untouched {w = w} refl refl p };
              works = λ w a b p. untouched {w = w} refl refl p;
              lowers = λ w v x i b p. untouched {w = w} refl refl p;
              uppers = λ w v x i b p. untouched {w = w} refl refl p;
            };
        rowing = record { changes = changes; drops = dropped };
      }

  pub one_more : (r n m : ℕ) (rs : List Row) (x : Row) → m ≡ n + choose (not x.alive) 1 0 → (trivial M r ≡ true → x.alive ≡ false) → (Begins M) r rs n → (Begins M) (suc r) (rs ++ (x ∷ [])) m
  unfolding count_below
  one_more r n m rs x e t h =
      let own : get_or (rs ++ (x ∷ [])) r no_row ≡ x = get_or_at rs x [] no_row r h.size in
      let old : (q : ℕ) → q < r → get_or (rs ++ (x ∷ [])) q no_row ≡ get_or rs q no_row = λ q k. get_or-append rs (x ∷ []) no_row q (omega (arith, h.size)) in
      let l : length (rs ++ (x ∷ [])) ≡ suc r = omega (arith, length-append rs (x ∷ []), h.size) in
      let c : count_below r (dead (rs ++ (x ∷ []))) ≡ count_below r (dead rs) = count_same r (dead rs) _ (λ q k. ap (λ (y : Row). not y.alive) (old q k)) in
      let d : choose {A = ℕ} (dead (rs ++ (x ∷ [])) r) 1 0 ≡ choose (not x.alive) 1 0 = ap (λ (y : Row). choose {A = ℕ} (not y.alive) 1 0) own in
      record {
        size = l;
        count = omega (arith, e, h.count, c, d);
        trivials =
            λ q u. elim (dec_lt q r) [
              | yes k ↦ ap (λ (y : Row). y.alive) (old q k) ∙ h.trivials q u
              | no k ↦ elim (ℕ_discrete q r) [
                | yes i ↦ ap (λ (j : ℕ). (get_or (rs ++ (x ∷ [])) j no_row).alive) i ∙ ap (λ (y : Row). y.alive) own ∙ t (ap (trivial M) (sym i) ∙ u)
                | no i ↦ ap (λ (y : Row). y.alive) (get_or-eq_default (rs ++ (x ∷ [])) no_row (omega arith))
              ]
            ];
      }

  pub read_begins : {r n : ℕ} {rs : List Row} {queue : List ℕ} → Read M r rs queue n → (Begins M) r rs n
  unfolding count_below as_written choose
  read_begins unread = record { size = refl; count = refl; trivials = λ q u. refl }
  read_begins (queues {r} {n} {rows} t h) = one_more r n n rows (as_written M r) (omega arith) (λ u. true≢false u t) (read_begins h)
  read_begins (drops {r} {n} {rows} t h) = one_more r n (suc n) rows (with_alive false (as_written M r)) (omega arith) (λ u. refl) (read_begins h)

  pub held : HeldThroughout M (Counted M)
  held =
      record {
        kept = kept;
        passes = λ w p. untouched {w = w} refl refl p;
        begins = λ ls hs rows queue dirty n b h.
            (let k : (Begins M) (length M.rhs) rows n = read_begins h in record { rows = k.size; count = k.count; trivials = k.trivials });
      }

pub none_is : {es : List Emit} → es ≡ [] → is_none es ≡ true
unfolding is_none
none_is e = rw e

pub one_is : {es : List Emit} {e : Emit} → es ≡ e ∷ [] → is_none es ≡ false
unfolding is_none
one_is e = rw e

module _ (M : Model) {r : ℕ} {w v : Work} {o x : Out} (h : Tally M r w o) (f : Fates M (suc r) x.emitted x.kept)
    (rows : (q : ℕ) → (q ≡ r → ⊥) → dead v.rows q ≡ dead w.rows q) where
  pub tally : ((q : ℕ) → (q ≡ r → ⊥) → no_entry x.emitted q ≡ no_entry o.emitted q) → no_entry x.emitted r ≡ dead v.rows r
      → length x.emitted + choose (no_entry x.emitted r) 1 0 ≡ length o.emitted + 1 → Tally M (suc r) v x
  unfolding count_below
  tally same own size =
      let c : count_below r (no_entry x.emitted) ≡ count_below r (no_entry o.emitted) =
      count_same r (no_entry o.emitted) (no_entry x.emitted) (λ q k. same q (λ i. omega arith)) in
      record {
        settled = f;
        total = omega (arith, h.total, c, size);
        alive =
            λ q k. elim (ℕ_discrete q r) [
              | yes i ↦ subst (λ (j : ℕ). no_entry x.emitted j ≡ dead v.rows j) (sym i) own
              | no d ↦ same q d ∙ h.alive q (omega arith) ∙ sym (rows q d)
            ];
      }

  -- row r leaves no entry
  pub without : x.emitted ≡ o.emitted → dead v.rows r ≡ true → Tally M (suc r) v x
  unfolding no_entry choose
  without e d =
      let n : is_none (entries_of r x.emitted) ≡ true = none_is (ap (entries_of r) e ∙ h.settled.entries r (omega arith)) in
      tally (λ q i. ap (λ (es : List Emit). is_none (entries_of q es)) e) (n ∙ sym d)
      (ap (λ (es : List Emit). length es + choose (no_entry x.emitted r) 1 0) e ∙ ap (λ (b : Bool). length o.emitted + choose b 1 0) n)

  -- row r leaves one
  pub with_entry : (e : Emit) → e.row ≡ r → x.emitted ≡ o.emitted ++ (e ∷ []) → dead v.rows r ≡ false → Tally M (suc r) v x
  unfolding no_entry choose
  with_entry e i a d =
      let own : entries_of e.row (o.emitted ++ (e ∷ [])) ≡ e ∷ [] =
      entries_own e o.emitted (ap (λ (j : ℕ). entries_of j o.emitted) i ∙ h.settled.entries r (omega arith)) in
      let n : is_none (entries_of r x.emitted) ≡ false = one_is (ap (entries_of r) a ∙ ap (λ (j : ℕ). entries_of j (o.emitted ++ (e ∷ []))) (sym i) ∙ own) in
      let l : length x.emitted ≡ length o.emitted + 1 = ap length a ∙ length-append o.emitted (e ∷ []) in
      tally (λ q j. ap (λ (es : List Emit). is_none (entries_of q es)) a ∙ ap is_none (entries_other q e o.emitted (λ k. j (sym k ∙ i)))) (n ∙ sym d)
      (omega (arith, l, ap (λ (b : Bool). choose {A = ℕ} b 1 0) n))

-- ---- the walk
pub set_dead : (rs : List Row) (r : ℕ) (x : Row) → (q : ℕ) → (q ≡ r → ⊥) → dead (set rs r x) q ≡ dead rs q
set_dead rs r x q d = ap (λ (y : Row). not y.alive) (get_or-set_other rs r q x no_row d)

pub goes_tally : (M : Model) {r : ℕ} {w v : Work} {o x : Out} → Goes M r w o (final v x) → Fates M (suc r) x.emitted x.kept → Counted M w → Tally M r w o → Tally M (suc r) v x
unfolding drop_row
goes_tally M {r} {w} (skipped t) f c h = without M h f (λ q d. refl) refl (ap not (c.trivials r t))
goes_tally M {r} {w} (before t a) f c h = without M h f (λ q d. refl) refl (ap not a)
goes_tally M {r} {w} (emptied t a) f c h =
    let b : (get_or (set w.rows r (last_fold M r w)) r no_row).alive ≡ true = ap (λ (y : Row). y.alive) (get_set w.rows r _ a) ∙ changed_alive M r (folded w) a in
    without M h f (λ q d. set_dead (set w.rows r (last_fold M r w)) r _ q d ∙ set_dead w.rows r _ q d) refl
    (ap (λ (y : Row). not y.alive) (get_set (set w.rows r (last_fold M r w)) r _ b))
goes_tally M {r} {w} (given t a) f c h =
    with_entry M h f (λ q d. set_dead w.rows r _ q d) _ refl refl (ap (λ (y : Row). not y.alive) (get_set w.rows r _ a) ∙ ap not (changed_alive M r (folded w) a))
goes_tally M {r} {w} (rewrites t a d e) f c h =
    with_entry M h f (λ q d. set_dead w.rows r _ q d) _ refl refl (ap (λ (y : Row). not y.alive) (get_set w.rows r _ a) ∙ ap not (changed_alive M r (folded w) a))

pub tallies : (M : Model) → Emitted M (Counted M) (Tally M)
unfolding count_below
tallies M =
    record {
      held = held M;
      none = λ w p. record { settled = none_settled M; total = refl; alive = λ q k. absurd (omega arith) };
      goes = λ r w v o x p q g h. goes_tally M g (goes_settled M g h.settled) p h;
    }
