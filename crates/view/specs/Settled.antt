-- The end of presolve in two passes: every row is settled, which may still find the model infeasible; then what goes out is read off the settled state. Together they are
-- the definition's one pass.
use Rattle.std.specs.Prelude.{ℕ, zero, suc, ◌+◌, ◌<◌, ◌≡◌, Bool, List, [], ◌∷◌, ltb, length, Float}
use Rattle.std.proofs.Common.{arith, sym, ◌∙◌}
use Rattle.std.proofs.Math.Path.{refl, ap}
use Rattle.std.proofs.Math.Bool.{true, false}
use Rattle.std.proofs.Math.Option.{Option, none, some}
use Rattle.std.proofs.Math.ListN.{get_or, set, length-set}
use Rattle.std.proofs.Math.Seq.{get_or-set_same, get_or-set_other}
use Rattle.std.specs.Float.Ieee.{eq}
use Rattle.floats.specs.Num.{choose, gt, 0f, is_finite}
use Rattle.tolerances.specs.Tol.{violated}
use Rattle.definition.specs.declared.Counts.{Counts}
use Rattle.definition.specs.Model.{Model, nnz, written, op_of, rhs_of, Binding, Row, with_alive, as_written}
use Rattle.definition.specs.Work.{Work, with_row, Step, stop, next, ◌>>=◌, no_row, no_term, fixed, drop_row, trivial}
use Rattle.definition.specs.Folds.{fold_term, fold_step, fold_loop, fixed_besides, widen, gives_back, rewrite_room, relax_with, relax_binding, given_back, hold_rewrites, fold_fixed}
use Rattle.definition.specs.Singles.{fixed_value, empty_row_check}
use Rattle.definition.specs.Emit.{Out, no_out, Final, fails, final, keep_row, no_terms, out_row, out_empty, out_alive, out_one, out_from}
use Rattle.view.specs.Lists.{yes, no, either}

module _ (M : Model) where
  -- a row is folded, and judged where no term is left
  unfoldable pub settle_alive : ℕ → Row → Work → Step
  settle_alive r row w =
      let w1 = with_row r row w in
      choose (no_terms row.terms) (empty_row_check M r row w1) (next w1)

  unfoldable pub settle_row : ℕ → Work → Step
  settle_row r w =
      let row = get_or w.rows r no_row in
      choose (trivial M r) (next w) (choose row.alive (settle_alive r (fold_fixed M r w row) w) (next w))

  -- the n rows from r on
  unfoldable pub settle_from : ℕ → ℕ → Work → Step
  settle_from zero r w = next w
  settle_from (suc n) r w = settle_row r w >>= settle_from n (suc r)

  -- what the row, settled, adds
  unfoldable pub out_settled : ℕ → Row → Out → Out
  out_settled r row o = choose (trivial M r) o (choose row.alive (out_row M r row o) (keep_row r o))

  -- what the first n rows give
  unfoldable pub out_of : List Row → ℕ → Out
  out_of rows zero = no_out
  out_of rows (suc r) = out_settled r (get_or rows r no_row) (out_of rows r)

  unfoldable pub final_of : ℕ → Step → Final
  final_of n (stop k) = fails k
  final_of n (next w) = final w (out_of w.rows n)

-- what the first n rows give is theirs alone
pub out_same : (M : Model) (us vs : List Row) (n : ℕ) → ((q : ℕ) → q < n → get_or us q no_row ≡ get_or vs q no_row) → out_of M us n ≡ out_of M vs n
unfolding out_of
out_same M us vs zero h = refl
out_same M us vs (suc r) h =
    let z : out_of M us r ≡ out_of M vs r = out_same M us vs r (λ q p. h q (omega arith)) in
    let y : get_or us r no_row ≡ get_or vs r no_row = h r (omega arith) in
    rw (z, y)

-- ---- folding keeps a row at work
step_alive : (w : Work) (s : ℕ × Row) → (fold_step w s).1.alive ≡ s.1.alive
unfolding fold_step fold_term
step_alive w s =
    either (λ (z : ℕ × Row). z.1.alive ≡ s.1.alive) (eq (get_or s.1.terms s.0 no_term).coeff 0f) (λ e. refl)
    (λ e. either (λ (z : ℕ × Row). z.1.alive ≡ s.1.alive) (fixed w (get_or s.1.terms s.0 no_term).var) (λ f. refl) (λ f. refl))

loop_alive : (n : ℕ) (w : Work) (s : ℕ × Row) → (fold_loop n w s).1.alive ≡ s.1.alive
unfolding fold_loop
loop_alive zero w s = refl
loop_alive (suc n) w s = loop_alive n w (fold_step w s) ∙ step_alive w s

widened_alive : (k o : Float) (row : Row) → (widen k o row).alive ≡ row.alive
unfolding widen
widened_alive k o row = either (λ (z : Row). z.alive ≡ row.alive) (is_finite row.hi) (λ e. refl) (λ e. refl)

relax_alive : (M : Model) (w : Work) (row : Row) (b : Option Binding) → (relax_with M w row b).alive ≡ row.alive
unfolding relax_with
relax_alive M w row none = refl
relax_alive M w row (some b) =
    either (λ (z : Row). z.alive ≡ row.alive) (gt (rewrite_room M b.written b.rewritten (fixed_besides w row b.binaries)) b.kept)
    (λ e. widened_alive (rewrite_room M b.written b.rewritten (fixed_besides w row b.binaries)) b.kept row) (λ e. refl)

back_alive : (M : Model) (r : ℕ) (w : Work) → (given_back M r w).alive ≡ true
unfolding given_back as_written
back_alive M r w = loop_alive (nnz M r) w (0, as_written M r)

hold_alive : (M : Model) (r : ℕ) (w : Work) (row : Row) → row.alive ≡ true → (hold_rewrites M r w row).alive ≡ true
unfolding hold_rewrites
hold_alive M r w row a = either (λ (z : Row). z.alive ≡ true) (gives_back row) (λ e. back_alive M r w) (λ e. a)

pub fold_alive : (M : Model) (r : ℕ) (w : Work) (row : Row) → row.alive ≡ true → (fold_fixed M r w row).alive ≡ true
unfolding fold_fixed relax_binding
fold_alive M r w row a =
    let x = (fold_loop (length row.terms) w (0, row)).1 in
    let y : x.alive ≡ true = loop_alive (length row.terms) w (0, row) ∙ a in
    either (λ (z : Row). z.alive ≡ true) (ltb (length row.folded) (length x.folded))
    (λ e. hold_alive M r w (relax_binding M w x) (relax_alive M w x x.binding ∙ y)) (λ e. y)

-- ---- one row
alive_in : (rows : List Row) (r : ℕ) → (get_or rows r no_row).alive ≡ true → r < length rows
alive_in [] r e = absurd (let z : ◌≡◌ {A = ℕ} 0 1 = cc in omega arith)
alive_in (x ∷ rows) zero e = omega arith
alive_in (x ∷ rows) (suc r) e = let z = alive_in rows r e in omega arith

module _ (M : Model) (r : ℕ) where
  settled_live : (x : Row) (o : Out) → trivial M r ≡ false → x.alive ≡ true → out_settled M r x o ≡ out_row M r x o
  unfolding out_settled
  settled_live x o t a = no _ _ t ∙ yes _ _ a

  settled_gone : (x : Row) (o : Out) → trivial M r ≡ false → x.alive ≡ false → out_settled M r x o ≡ keep_row r o
  unfolding out_settled
  settled_gone x o t a = no _ _ t ∙ no _ _ a

  settled_trivial : (x : Row) (o : Out) → trivial M r ≡ true → out_settled M r x o ≡ o
  unfolding out_settled
  settled_trivial x o t = yes _ _ t

  -- the first rows, where row r has become x
  out_next : (us vs : List Row) (x : Row) → ((q : ℕ) → q < r → get_or vs q no_row ≡ get_or us q no_row) → get_or vs r no_row ≡ x → out_of M vs (suc r) ≡ out_settled M r x (out_of M us r)
  unfolding out_of
  out_next us vs x h e =
      let z : out_of M vs r ≡ out_of M us r = out_same M vs us r h in
      rw (z, e)

  module _ (w : Work) where
    abbrev o₀ : Out
    o₀ = out_of M w.rows r

    one_trivial : trivial M r ≡ true → out_one M r (final w o₀) ≡ final_of M (suc r) (settle_row M r w)
    unfolding out_one settle_row final_of
    one_trivial t =
        let z : out_of M w.rows (suc r) ≡ o₀ = out_next w.rows w.rows _ (λ q p. refl) refl ∙ settled_trivial _ o₀ t in
        yes _ _ t ∙ ap (final w) (sym z) ∙ ap (final_of M (suc r)) (sym (yes (next w) _ t))

    one_gone : trivial M r ≡ false → (get_or w.rows r no_row).alive ≡ false → out_one M r (final w o₀) ≡ final_of M (suc r) (settle_row M r w)
    unfolding out_one settle_row final_of
    one_gone t a =
        let z : out_of M w.rows (suc r) ≡ keep_row r o₀ = out_next w.rows w.rows _ (λ q p. refl) refl ∙ settled_gone _ o₀ t a in
        no _ _ t ∙ no _ _ a ∙ ap (final w) (sym z) ∙ ap (final_of M (suc r)) (sym (no (next w) _ t ∙ no _ (next w) a))

    -- row r has become x, alive
    module _ (x : Row) (in_rows : r < length w.rows) (t : trivial M r ≡ false) where
      one_dropped : out_empty M r o₀ (next (drop_row r x (with_row r x w))) ≡ final_of M (suc r) (next (drop_row r x (with_row r x w)))
      unfolding out_empty final_of drop_row
      one_dropped =
          let us = set (set w.rows r x) r (with_alive false x) in
          let y : get_or us r no_row ≡ with_alive false x = get_or-set_same (set w.rows r x) r (with_alive false x) no_row (omega (arith, in_rows, length-set w.rows r x)) in
          let z : out_of M us (suc r) ≡ keep_row r o₀ =
          out_next w.rows us (with_alive false x)
          (λ q p. get_or-set_other (set w.rows r x) r q (with_alive false x) no_row (λ e. omega (arith, p, e)) ∙ get_or-set_other w.rows r q x no_row (λ e. omega (arith, p, e))) y
          ∙ settled_gone (with_alive false x) o₀ t refl in
          ap (final (drop_row r x (with_row r x w))) (sym z)

      one_stopped : (k : Counts) → out_empty M r o₀ (stop k) ≡ final_of M (suc r) (stop k)
      unfolding out_empty final_of
      one_stopped k = refl

      one_empty : out_empty M r o₀ (empty_row_check M r x (with_row r x w)) ≡ final_of M (suc r) (empty_row_check M r x (with_row r x w))
      unfolding empty_row_check
      one_empty =
          either (λ (s : Step). out_empty M r o₀ s ≡ final_of M (suc r) s) (violated M.feas (op_of M r) (written M r) (rhs_of M r) (fixed_value (with_row r x w)))
          (λ e. one_stopped w.counts) (λ e. one_dropped)

      one_left : x.alive ≡ true → final (with_row r x w) (out_row M r x o₀) ≡ final_of M (suc r) (next (with_row r x w))
      unfolding final_of
      one_left a =
          let us = set w.rows r x in
          let z : out_of M us (suc r) ≡ out_row M r x o₀ =
          out_next w.rows us x (λ q p. get_or-set_other w.rows r q x no_row (λ e. omega (arith, p, e))) (get_or-set_same w.rows r x no_row in_rows)
          ∙ settled_live x o₀ t a in
          ap (final (with_row r x w)) (sym z)

      one_alive : x.alive ≡ true → out_alive M r x w o₀ ≡ final_of M (suc r) (settle_alive M r x w)
      unfolding out_alive settle_alive
      one_alive a = go (no_terms x.terms)
        where
          go : (b : Bool) → choose b (out_empty M r o₀ (empty_row_check M r x (with_row r x w))) (final (with_row r x w) (out_row M r x o₀))
              ≡ final_of M (suc r) (choose b (empty_row_check M r x (with_row r x w)) (next (with_row r x w)))
          go true = yes _ _ refl ∙ one_empty ∙ ap (final_of M (suc r)) (sym (yes _ (next (with_row r x w)) refl))
          go false = no _ _ refl ∙ one_left a ∙ ap (final_of M (suc r)) (sym (no (empty_row_check M r x (with_row r x w)) _ refl))

    one_live : trivial M r ≡ false → (get_or w.rows r no_row).alive ≡ true → out_one M r (final w o₀) ≡ final_of M (suc r) (settle_row M r w)
    unfolding out_one settle_row
    one_live t a =
        let x = fold_fixed M r w (get_or w.rows r no_row) in
        no _ _ t ∙ yes _ _ a ∙ one_alive x (alive_in w.rows r a) t (fold_alive M r w (get_or w.rows r no_row) a)
        ∙ ap (final_of M (suc r)) (sym (no (next w) _ t ∙ yes _ (next w) a))

    one_row : out_one M r (final w o₀) ≡ final_of M (suc r) (settle_row M r w)
    one_row = go (trivial M r) refl (get_or w.rows r no_row).alive refl
      where
        go : (b : Bool) → trivial M r ≡ b → (c : Bool) → (get_or w.rows r no_row).alive ≡ c → out_one M r (final w o₀) ≡ final_of M (suc r) (settle_row M r w)
        go true t c a = one_trivial t
        go false t false a = one_gone t a
        go false t true a = one_live t a

-- ---- all rows
fails_on : (M : Model) (n r : ℕ) (k : Counts) → out_from M n r (fails k) ≡ fails k
unfolding out_from out_one
fails_on M zero r k = refl
fails_on M (suc n) r k = fails_on M n (suc r) k

final_bind : (M : Model) (n : ℕ) (r : ℕ) (s : Step) → ((w : Work) → out_from M n (suc r) (final w (out_of M w.rows (suc r))) ≡ final_of M (suc r + n) (settle_from M n (suc r) w))
    → out_from M n (suc r) (final_of M (suc r) s) ≡ final_of M (suc r + n) (s >>= settle_from M n (suc r))
unfolding final_of
final_bind M n r (stop k) h = fails_on M n (suc r) k
final_bind M n r (next w) h = h w

out_from_lem : (M : Model) (n r : ℕ) (w : Work) → out_from M n r (final w (out_of M w.rows r)) ≡ final_of M (r + n) (settle_from M n r w)
unfolding out_from settle_from final_of
out_from_lem M zero r w = let z : r + 0 ≡ r = omega arith in ap (λ (k : ℕ). final w (out_of M w.rows k)) (sym z)
out_from_lem M (suc n) r w =
    let z : r + suc n ≡ suc r + n = omega arith in
    ap (out_from M n (suc r)) (one_row M r w) ∙ final_bind M n r (settle_row M r w) (λ u. out_from_lem M n (suc r) u)
    ∙ ap (λ (k : ℕ). final_of M k (settle_row M r w >>= settle_from M n (suc r))) (sym z)

out_none : (M : Model) (rows : List Row) → out_of M rows 0 ≡ no_out
unfolding out_of
out_none M rows = refl

-- the definition's pass is the two
pub out_settled_lem : (M : Model) (n : ℕ) (w : Work) → out_from M n 0 (final w no_out) ≡ final_of M n (settle_from M n 0 w)
out_settled_lem M n w =
    let z : 0 + n ≡ n = omega arith in
    ap (λ (o : Out). out_from M n 0 (final w o)) (sym (out_none M w.rows)) ∙ out_from_lem M n 0 w ∙ ap (λ (k : ℕ). final_of M k (settle_from M n 0 w)) z
