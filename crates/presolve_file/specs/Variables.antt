-- THE TERMS THAT GO OUT HAVE THE MODEL'S VARIABLES: a row's terms are those that it was written with, and a rewrite changes a coefficient alone.
use Prim.Native.Nat.{ℕ, zero, suc, ◌-◌, ◌<◌}
use Rattle.std.specs.Prelude.{◌≡◌, false, length, get_or, take, drop, set, Float}
use Rattle.std.proofs.Common.{sym, subst}
use mathlib.Core.List.{List, [], ◌∷◌, ◌++◌}
use Rattle.std.proofs.Math.Option.{Option, none, some}
use Rattle.floats.specs.Num.{is_finite}
use Rattle.tolerances.specs.Tol.{Term, zip_terms}
use Rattle.definition.specs.Model.{Model, Row, Binding, Reduced, done, written, nnz, from, with_alive, with_range, with_binding, as_written}
use Rattle.definition.specs.Work.{Work, no_term, no_row, drop_row}
use Rattle.definition.specs.Folds.{swap_remove, fold_term, fold_step, fold_loop, widen, relax_with, relax_binding, given_back, hold_rewrites, fold_fixed}
use Rattle.definition.specs.Rewrites.{Form, le_form, ge_form, no_form, Rewrite, keeps, coeff_only, coeff_bound}
use Rattle.definition.specs.Tighten.{Rewriting, set_coeff, rebound_row, row_after, rewrite_step, rewrite_loop}
use Rattle.definition.specs.Emit.{insert_term, sort_terms, Out, final}
use Rattle.definition.specs.Presolve.{presolve}
use Rattle.rows_kept.specs.Statements.{All, no_one, each}
use Rattle.definition.specs.Choices.{both}
use Rattle.rows_kept.specs.Kept.{Kept, Changed, folded, tightened}
use Rattle.rows_kept.specs.AllRows.{AllRows}
use Rattle.rows_kept.proofs.AllRows.{set_all, snoc_all, read_size}
use Rattle.rows_kept.specs.Outs.{Goes, skipped, before, emptied, given, rewrites}
use Rattle.rows_kept.specs.Whole.{Read, unread, queues, drops, Emitted}
use Rattle.rows_kept.proofs.Whole.{of_done}

-- ---- lists of which each has a property
module _ {A : Type 0} {P : A → Type 0} where
  all_append : {xs ys : List A} → All P xs → All P ys → All P (xs ++ ys)
  all_append no_one k = k
  all_append (each p h) k = each p (all_append h k)

  all_get : {xs : List A} (i : ℕ) (d : A) → P d → All P xs → P (get_or xs i d)
  all_get i d q no_one = q
  all_get zero d q (each p h) = p
  all_get (suc i) d q (each p h) = all_get i d q h

  all_set : {xs : List A} (i : ℕ) (x : A) → P x → All P xs → All P (set xs i x)
  all_set i x q no_one = no_one
  all_set zero x q (each p h) = each q h
  all_set (suc i) x q (each p h) = each p (all_set i x q h)

  all_take : {xs : List A} (k : ℕ) → All P xs → All P (take k xs)
  all_take zero h = no_one
  all_take (suc k) no_one = no_one
  all_take (suc k) (each {xs = xs} p h) = each p (all_take {xs = xs} k h)

  all_drop : {xs : List A} (k : ℕ) → All P xs → All P (drop k xs)
  all_drop zero h = h
  all_drop (suc k) no_one = no_one
  all_drop (suc k) (each {xs = xs} p h) = all_drop {xs = xs} k h

-- n is above every variable of the model, and above the 0 that a list is read as past its end
module _ (M : Model) (n : ℕ) (above : 0 < n) (given_below : All (λ (v : ℕ). v < n) M.index) where
  abbrev Below : Term → Type 0
  Below t = t.var < n

  record Within (row : Row) : Type 0 where
    live : All Below row.terms
    gone : All Below row.folded

  -- ---- a row as written
  zip_below : {vs : List ℕ} (cs : List Float) → All (λ (v : ℕ). v < n) vs → All Below (zip_terms vs cs)
  unfolding zip_terms
  zip_below cs no_one = no_one
  zip_below [] (each p h) = no_one
  zip_below (c ∷ cs) (each p h) = each p (zip_below cs h)

  as_written_lem : (r : ℕ) → Within (as_written M r)
  unfolding as_written written
  as_written_lem r = record { live = zip_below _ (all_take (nnz M r) (all_drop (from M r) given_below)); gone = no_one }

  -- ---- folding
  here : (i : ℕ) {row : Row} → Within row → Below (get_or row.terms i no_term)
  here i q = all_get i no_term above q.live

  swapped : (i : ℕ) {row : Row} → Within row → All Below (swap_remove row.terms i)
  unfolding swap_remove
  swapped i {row} q = all_take (length row.terms - 1) (all_set i _ (here (length row.terms - 1) q) q.live)

  fold_step_lem : (w : Work) (s : ℕ × Row) → Within s.1 → Within (fold_step w s).1
  unfolding fold_step fold_term
  fold_step_lem w s q =
      let P : ℕ × Row → Type 0 = λ x. Within x.1 in
      both P _ (record { live = swapped s.0 q; gone = q.gone })
      (both P _ (record { live = swapped s.0 q; gone = all_append q.gone (each (here s.0 q) no_one) }) q)

  fold_loop_lem : (k : ℕ) (w : Work) (s : ℕ × Row) → Within s.1 → Within (fold_loop k w s).1
  unfolding fold_loop
  fold_loop_lem zero w s q = q
  fold_loop_lem (suc k) w s q = fold_loop_lem k w (fold_step w s) (fold_step_lem w s q)

  given_back_lem : (r : ℕ) (w : Work) → Within (given_back M r w)
  unfolding given_back
  given_back_lem r w = fold_loop_lem (nnz M r) w (0, as_written M r) (as_written_lem r)

  ranged : (row : Row) (b : Binding) (l h : Float) → Within row → Within (with_binding (some b) (with_range l h row))
  ranged row b l h q = record { live = q.live; gone = q.gone }

  wider : (row : Row) (b : Binding) (kept old : Float) → Within row → Within (with_binding (some b) (widen kept old row))
  unfolding widen
  wider row b kept old q = both (λ (x : Row). Within (with_binding (some b) x)) (is_finite row.hi) (ranged row b _ _ q) (ranged row b _ _ q)

  relax_with_lem : (w : Work) (row : Row) (o : Option Binding) → Within row → Within (relax_with M w row o)
  unfolding relax_with
  relax_with_lem w row none q = q
  relax_with_lem w row (some b) q = both Within _ (wider row _ _ _ q) q

  fold_fixed_lem : (r : ℕ) (w : Work) (row : Row) → Within row → Within (fold_fixed M r w row)
  unfolding fold_fixed hold_rewrites relax_binding
  fold_fixed_lem r w row q =
      let p : Within (fold_loop (length row.terms) w (0, row)).1 = fold_loop_lem (length row.terms) w (0, row) q in
      both Within _ (both Within _ (given_back_lem r w) (relax_with_lem w _ _ p)) p

  -- ---- rewriting
  set_coeff_lem : (row : Row) (i : ℕ) (a : Float) → Within row → Within (set_coeff i (get_or row.terms i no_term).var a row)
  unfolding set_coeff
  set_coeff_lem row i a q = record { live = all_set i _ (here i q) q.live; gone = q.gone }

  rebound : (f : Form) (w : Work) (row : Row) (i : ℕ) (a na bp : Float) → Within row → Within (rebound_row M f w row i (get_or row.terms i no_term).var a na bp)
  unfolding rebound_row
  rebound le_form w row i a na bp q = ranged _ _ _ _ (set_coeff_lem row i na q)
  rebound ge_form w row i a na bp q = ranged _ _ _ _ (set_coeff_lem row i na q)
  rebound no_form w row i a na bp q = q

  row_after_lem : (f : Form) (w : Work) (row : Row) (i : ℕ) (x : Rewrite) → Within row → Within (row_after M f w row i (get_or row.terms i no_term) x)
  unfolding row_after
  row_after_lem f w row i keeps q = q
  row_after_lem f w row i (coeff_only na) q = set_coeff_lem row i na q
  row_after_lem f w row i (coeff_bound na bp d) q = rebound f w row i _ na bp q

  rewrite_step_lem : (f : Form) (nz : Float) (r i : ℕ) (s : Rewriting) → Within s.row → Within (rewrite_step M f nz r i s).row
  unfolding rewrite_step
  rewrite_step_lem f nz r i s q =
      let P : Rewriting → Type 0 = λ x. Within x.row in
      let p = row_after_lem f s.work s.row i _ q in
      both P _ q (both P _ (given_back_lem r _) (record { live = p.live; gone = p.gone }))

  rewrite_loop_lem : (k : ℕ) (f : Form) (nz : Float) (r i : ℕ) (s : Rewriting) → Within s.row → Within (rewrite_loop M k f nz r i s).row
  unfolding rewrite_loop
  rewrite_loop_lem zero f nz r i s q = q
  rewrite_loop_lem (suc k) f nz r i s q = rewrite_loop_lem k f nz r (suc i) _ (rewrite_step_lem f nz r i s q)

  changed : {r : ℕ} {row x : Row} → Changed M r row x → Within row → Within x
  changed {r} {row} (folded w) q = fold_fixed_lem r w row q
  changed {r} {row} (tightened {f} e sided k i nz s same) q = rewrite_loop_lem k f nz r i s (subst Within (sym same) q)

  -- ---- every row of every state
  abbrev Rows : Work → Type 0
  Rows w = AllRows (λ r. Within) w.rows

  leaves : (row : Row) → Within row → Within (with_alive false row)
  leaves row q = record { live = q.live; gone = q.gone }

  past : (r : ℕ) → Within no_row
  past r = record { live = no_one; gone = no_one }

  steps : Kept M Rows
  unfolding drop_row
  steps =
      record {
        bounding = record { marking = record { marks = λ w d c q p. p; counted = λ w a b c p. p }; works = λ w a b p. p; lowers = λ w v x i b p. p; uppers = λ w v x i b p. p };
        rowing =
            record {
              changes = λ w r row a c p. set_all (λ r. Within) w.rows r row p (changed c (p r));
              drops = λ w r row g a p. set_all (λ r. Within) w.rows r _ p (leaves row (subst Within g (p r)));
            };
      }

  read_all : {r k : ℕ} {rs : List Row} {queue : List ℕ} → Read M r rs queue k → AllRows (λ r. Within) rs
  read_all unread = past
  read_all (queues {r} {rows = rs} t h) = snoc_all (λ r. Within) past rs r _ (read_size h) (read_all h) (as_written_lem r)
  read_all (drops {r} {rows = rs} t h) = snoc_all (λ r. Within) past rs r _ (read_size h) (read_all h) (leaves _ (as_written_lem r))

  -- ---- what is out
  insert_all : (t : Term) {ts : List Term} → Below t → All Below ts → All Below (insert_term t ts)
  unfolding insert_term
  insert_all t p no_one = each p no_one
  insert_all t p (each q h) = both (All Below) _ (each p (each q h)) (each q (insert_all t p h))

  sort_all : {ts : List Term} → All Below ts → All Below (sort_terms ts)
  unfolding sort_terms
  sort_all no_one = no_one
  sort_all (each {x = t} p h) = insert_all t p (sort_all h)

  goes_below : {r : ℕ} {w v : Work} {o x : Out} → Goes M r w o (final v x) → Rows w → All Below o.terms → All Below x.terms
  goes_below (skipped t) p h = h
  goes_below (before t a) p h = h
  goes_below (emptied t a) p h = h
  goes_below (given t a) p h = h
  goes_below {r} {w} (rewrites t a c f) p h = let q = fold_fixed_lem r w _ (p r) in all_append h (sort_all (all_append q.live q.gone))

  out_below : Emitted M Rows (λ r w o. All Below o.terms)
  out_below =
      record {
        held = record { kept = steps; passes = λ w p. p; begins = λ ls hs rows queue dirty k b h. read_all h };
        none = λ w p. no_one;
        goes = λ r w v o x p q g h. goes_below g p h;
      }

  pub terms_below : {R : Reduced} → presolve M ≡ done R → All (λ (t : Term). t.var < n) R.terms
  terms_below e = of_done M out_below (λ R. All Below R.terms) (λ w o p h. h) e
