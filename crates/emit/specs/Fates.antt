-- A row's fate as a number, by 02's numbers: 0 trivially true, 1 emitted as written, 2 emitted rewritten and kept for validation, 3 dropped and kept.
-- And what goes out, list by list, by the fates.
use Prim.Native.Nat.{ℕ, zero, suc, ◌+◌, ◌≤◌, ◌<◌}
use Rattle.std.proofs.Common.{arith, ◌∙◌, length-append}
use Rattle.std.specs.Prelude.{◌≡◌, Bool, ◌||◌, eqb, get_or, Float}
use Rattle.std.proofs.Math.Path.{refl, ap, sym}
use Rattle.std.proofs.Math.Bool.{true, false}
use mathlib.Core.List.{List, [], ◌∷◌, ◌++◌, map}
use Rattle.std.proofs.Math.Dec.{ltb}
use Rattle.std.proofs.Math.ListN.{length}
use borrow.Author.Tests.{ne_eqb, lt-ltb}
use Rattle.floats.specs.Num.{choose, is_finite}
use Rattle.tolerances.specs.Tol.{Term, at}
use Rattle.definition.specs.Model.{Model, from, upto, rhs_of, Row, Emit}
use Rattle.definition.specs.Work.{no_row, trivial}
use Rattle.definition.specs.Bindings.{rewritten_bound}
use Rattle.definition.specs.Emit.{Out, no_out, sort_terms, keep_row, emit_written, emit_rewritten, out_row}
use Rattle.view.specs.Lists.{yes, no, either}
use Rattle.view.specs.Settled.{out_settled, out_of}
use Rattle.row_terms.specs.RowMark.{mark}

abbrev pub TRIVIAL : ℕ
TRIVIAL = 0

abbrev pub WRITTEN : ℕ
WRITTEN = 1

abbrev pub REWRITTEN : ℕ
REWRITTEN = 2

abbrev pub DROPPED : ℕ
DROPPED = 3

unfoldable pub is_kept : ℕ → Bool
is_kept c = ltb WRITTEN c

unfoldable pub is_out : ℕ → Bool
is_out c = eqb c WRITTEN || eqb c REWRITTEN

unfoldable pub is_rewritten : ℕ → Bool
is_rewritten c = eqb c REWRITTEN

module _ (M : Model) (r : ℕ) where
  -- of a settled row
  unfoldable pub fate_of : Row → ℕ
  fate_of row =
      choose (trivial M r) TRIVIAL
      (choose row.alive (choose row.touched (choose (is_finite (rewritten_bound M row r)) REWRITTEN WRITTEN) WRITTEN) DROPPED)

  -- what a fate adds
  unfoldable pub out_by : ℕ → Float → Row → Out → Out
  out_by zero b row o = o
  out_by (suc zero) b row o = emit_written M r o
  out_by (suc (suc zero)) b row o = emit_rewritten M r b (sort_terms (row.terms ++ row.folded)) o
  out_by (suc (suc (suc c))) b row o = keep_row r o

  by_tests : (t a u f : Bool) (b : Float) (row : Row) (o : Out)
      → choose t o (choose a (choose u (choose f (emit_rewritten M r b (sort_terms (row.terms ++ row.folded)) o) (emit_written M r o)) (emit_written M r o)) (keep_row r o))
      ≡ out_by (choose t TRIVIAL (choose a (choose u (choose f REWRITTEN WRITTEN) WRITTEN) DROPPED)) b row o
  unfolding choose out_by
  by_tests true a u f b row o = refl
  by_tests false false u f b row o = refl
  by_tests false true false f b row o = refl
  by_tests false true true false b row o = refl
  by_tests false true true true b row o = refl

  settled_by_lem : (row : Row) (o : Out) → out_settled M r row o ≡ out_by (fate_of row) (rewritten_bound M row r) row o
  unfolding out_settled out_row fate_of
  settled_by_lem row o = by_tests (trivial M r) row.alive row.touched (is_finite (rewritten_bound M row r)) (rewritten_bound M row r) row o

-- ---- the fates cs and the bounds bs of settled rows
pub record Fates (M : Model) (cs : List ℕ) (bs : List Float) (rows : List Row) (n : ℕ) : Type 0 where
  pub fate : (r : ℕ) → r < n → get_or cs r 0 ≡ fate_of M r (get_or rows r no_row)
  pub bound : (r : ℕ) → r < n → is_rewritten (get_or cs r 0) ≡ true → at bs r ≡ rewritten_bound M (get_or rows r no_row) r

unfoldable pub out_fates : Model → List ℕ → List Float → List Row → ℕ → Out
out_fates M cs bs rows zero = no_out
out_fates M cs bs rows (suc r) = out_by M r (get_or cs r 0) (at bs r) (get_or rows r no_row) (out_fates M cs bs rows r)

-- the bound is read where the row is rewritten
by_bound : (M : Model) (r c : ℕ) (b d : Float) (row : Row) (o : Out) → (is_rewritten c ≡ true → b ≡ d) → out_by M r c b row o ≡ out_by M r c d row o
unfolding out_by is_rewritten
by_bound M r zero b d row o h = refl
by_bound M r (suc zero) b d row o h = refl
by_bound M r (suc (suc zero)) b d row o h = rw (h refl)
by_bound M r (suc (suc (suc c))) b d row o h = refl

pub out_fates_lem : (M : Model) (cs : List ℕ) (bs : List Float) (rows : List Row) (n : ℕ) → Fates M cs bs rows n → out_of M rows n ≡ out_fates M cs bs rows n
unfolding out_of out_fates
out_fates_lem M cs bs rows zero h = refl
out_fates_lem M cs bs rows (suc r) h =
    let z : out_of M rows r ≡ out_fates M cs bs rows r = out_fates_lem M cs bs rows r (record { fate = λ q p. h.fate q (omega (arith, p)); bound = λ q p. h.bound q (omega (arith, p)) }) in
    let x = get_or rows r no_row in
    ap (out_settled M r x) z ∙ settled_by_lem M r x (out_fates M cs bs rows r)
    ∙ ap (λ (c : ℕ). out_by M r c (rewritten_bound M x r) x (out_fates M cs bs rows r)) (sym (h.fate r (omega arith)))
    ∙ sym (by_bound M r (get_or cs r 0) (at bs r) (rewritten_bound M x r) x (out_fates M cs bs rows r) (h.bound r (omega arith)))

-- ---- list by list
-- g of each number below n that p takes
unfoldable pub collect : {A : Type 0} → (ℕ → Bool) → (ℕ → A) → ℕ → List A
collect p g zero = []
collect p g (suc r) = choose (p r) (collect p g r ++ (g r ∷ [])) (collect p g r)

pub collect_length : {A : Type 0} (p : ℕ → Bool) (g : ℕ → A) (n : ℕ) → length (collect p g n) ≤ n
unfolding collect
collect_length p g zero = omega arith
collect_length p g (suc r) =
    let z = collect_length p g r in
    either (λ (l : List _). length l ≤ suc r) (p r) (λ e. let y = length-append (collect p g r) (g r ∷ []) in omega (arith, y, z)) (λ e. omega (arith, z))

-- how many there are is by p alone
pub collect_count : {A B : Type 0} (p : ℕ → Bool) (g : ℕ → A) (h : ℕ → B) (n : ℕ) → length (collect p g n) ≡ length (collect p h n)
unfolding collect choose
collect_count p g h zero = refl
collect_count p g h (suc r) = go (p r) (collect_count p g h r)
  where
    go : (b : Bool) → length (collect p g r) ≡ length (collect p h r) → length (choose b (collect p g r ++ (g r ∷ [])) (collect p g r))
        ≡ length (choose b (collect p h r ++ (h r ∷ [])) (collect p h r))
    go true e = let y = length-append (collect p g r) (g r ∷ []) in let z = length-append (collect p h r) (h r ∷ []) in omega (arith, y, z, e)
    go false e = e

abbrev pub kept_at : List ℕ → ℕ → Bool
kept_at cs r = is_kept (get_or cs r 0)

abbrev pub out_at : List ℕ → ℕ → Bool
out_at cs r = is_out (get_or cs r 0)

abbrev pub rewritten_at : List ℕ → ℕ → Bool
rewritten_at cs r = is_rewritten (get_or cs r 0)

abbrev pub mark_at : List ℕ → ℕ → ℕ
mark_at cs r = mark (rewritten_at cs r)

-- the row's number
abbrev pub self : ℕ → ℕ
self r = r

-- the right side that it goes out with
unfoldable pub side_at : List ℕ → List Float → List Float → ℕ → Float
side_at cs bs os r = choose (rewritten_at cs r) (at bs r) (at os r)

module _ (cs : List ℕ) (bs os : List Float) (r : ℕ) where
  pub side_bound : {z : Float} → rewritten_at cs r ≡ true → z ≡ at bs r → z ≡ side_at cs bs os r
  unfolding side_at
  side_bound t g = g ∙ sym (yes _ _ t)

  pub side_given : rewritten_at cs r ≡ false → at os r ≡ side_at cs bs os r
  unfolding side_at
  side_given t = sym (no _ _ t)

-- the terms of the rewritten rows below n
unfoldable pub terms_of : List ℕ → List Row → ℕ → List Term
terms_of cs rows zero = []
terms_of cs rows (suc r) = choose (rewritten_at cs r) (terms_of cs rows r ++ sort_terms ((get_or rows r no_row).terms ++ (get_or rows r no_row).folded)) (terms_of cs rows r)

unfoldable pub from_at : List ℕ → List Row → List ℕ → ℕ → ℕ
from_at cs rows ss r = choose (rewritten_at cs r) (length (terms_of cs rows r)) (get_or ss r 0)

unfoldable pub upto_at : List ℕ → List Row → List ℕ → ℕ → ℕ
upto_at cs rows ss r = choose (rewritten_at cs r) (length (terms_of cs rows (suc r))) (get_or ss (r + 1) 0)

pub record FateLists (M : Model) (cs : List ℕ) (bs : List Float) (rows : List Row) (n : ℕ) (o : Out) : Type 0 where
  pub kept : o.kept ≡ collect (kept_at cs) self n
  pub terms : o.terms ≡ terms_of cs rows n
  pub row : map (λ (e : Emit). e.row) o.emitted ≡ collect (out_at cs) self n
  pub rewritten : map (λ (e : Emit). mark e.rewritten) o.emitted ≡ collect (out_at cs) (mark_at cs) n
  pub rhs : map (λ (e : Emit). e.rhs) o.emitted ≡ collect (out_at cs) (side_at cs bs M.rhs) n
  pub from : map (λ (e : Emit). e.from) o.emitted ≡ collect (out_at cs) (from_at cs rows M.starts) n
  pub upto : map (λ (e : Emit). e.upto) o.emitted ≡ collect (out_at cs) (upto_at cs rows M.starts) n

-- one more row, by its fate
module _ {M : Model} {cs : List ℕ} {bs : List Float} {rows : List Row} {r : ℕ} {o : Out} (L : FateLists M cs bs rows r o) where
  map_snoc : {B : Type 0} (f : Emit → B) (l : List Emit) (e : Emit) → map f (l ++ (e ∷ [])) ≡ map f l ++ (f e ∷ [])
  map_snoc f [] e = refl
  map_snoc f (x ∷ l) e = ap (λ (t : List _). f x ∷ t) (map_snoc f l e)

  -- where p takes r, one element follows; where not, none
  more : {B : Type 0} (p : ℕ → Bool) (g : ℕ → B) {l l' : List B} {y : B} → p r ≡ true → l ≡ collect p g r → l' ≡ l ++ (y ∷ []) → y ≡ g r → l' ≡ collect p g (suc r)
  unfolding collect
  more p g e a b c = b ∙ rw (a, c) (sym (yes _ _ e))

  none_more : {B : Type 0} (p : ℕ → Bool) (g : ℕ → B) {l : List B} → p r ≡ false → l ≡ collect p g r → l ≡ collect p g (suc r)
  unfolding collect
  none_more p g e a = a ∙ sym (no _ _ e)

  terms_same : rewritten_at cs r ≡ false → o.terms ≡ terms_of cs rows (suc r)
  unfolding terms_of
  terms_same e = L.terms ∙ sym (no _ _ e)

  terms_more : rewritten_at cs r ≡ true → o.terms ++ sort_terms ((get_or rows r no_row).terms ++ (get_or rows r no_row).folded) ≡ terms_of cs rows (suc r)
  unfolding terms_of
  terms_more e = ap (λ (l : List Term). l ++ sort_terms ((get_or rows r no_row).terms ++ (get_or rows r no_row).folded)) L.terms ∙ sym (yes _ _ e)

  side_written : rewritten_at cs r ≡ false → rhs_of M r ≡ side_at cs bs M.rhs r
  unfolding rhs_of
  side_written e = side_given cs bs M.rhs r e

  side_rewritten : rewritten_at cs r ≡ true → at bs r ≡ side_at cs bs M.rhs r
  side_rewritten e = side_bound cs bs M.rhs r e refl

  from_written : rewritten_at cs r ≡ false → from M r ≡ from_at cs rows M.starts r
  unfolding from_at from
  from_written e = sym (no _ _ e)

  from_rewritten : rewritten_at cs r ≡ true → length o.terms ≡ from_at cs rows M.starts r
  unfolding from_at
  from_rewritten e = ap length L.terms ∙ sym (yes _ _ e)

  upto_written : rewritten_at cs r ≡ false → upto M r ≡ upto_at cs rows M.starts r
  unfolding upto_at upto
  upto_written e = sym (no _ _ e)

  upto_rewritten : rewritten_at cs r ≡ true → length o.terms + length (sort_terms ((get_or rows r no_row).terms ++ (get_or rows r no_row).folded)) ≡ upto_at cs rows M.starts r
  unfolding upto_at
  upto_rewritten e = sym (length-append o.terms (sort_terms ((get_or rows r no_row).terms ++ (get_or rows r no_row).folded))) ∙ ap length (terms_more e) ∙ sym (yes _ _ e)

  lists_same : kept_at cs r ≡ false → out_at cs r ≡ false → rewritten_at cs r ≡ false → FateLists M cs bs rows (suc r) o
  lists_same k u w =
      record {
        kept = none_more (kept_at cs) self k L.kept;
        terms = terms_same w;
        row = none_more (out_at cs) self u L.row;
        rewritten = none_more (out_at cs) (mark_at cs) u L.rewritten;
        rhs = none_more (out_at cs) (side_at cs bs M.rhs) u L.rhs;
        from = none_more (out_at cs) (from_at cs rows M.starts) u L.from;
        upto = none_more (out_at cs) (upto_at cs rows M.starts) u L.upto;
      }

  lists_kept : kept_at cs r ≡ true → out_at cs r ≡ false → rewritten_at cs r ≡ false → FateLists M cs bs rows (suc r) (keep_row r o)
  lists_kept k u w =
      record {
        kept = more (kept_at cs) self k L.kept refl refl;
        terms = terms_same w;
        row = none_more (out_at cs) self u L.row;
        rewritten = none_more (out_at cs) (mark_at cs) u L.rewritten;
        rhs = none_more (out_at cs) (side_at cs bs M.rhs) u L.rhs;
        from = none_more (out_at cs) (from_at cs rows M.starts) u L.from;
        upto = none_more (out_at cs) (upto_at cs rows M.starts) u L.upto;
      }

  lists_written : kept_at cs r ≡ false → out_at cs r ≡ true → rewritten_at cs r ≡ false → FateLists M cs bs rows (suc r) (emit_written M r o)
  lists_written k u w =
      record {
        kept = none_more (kept_at cs) self k L.kept;
        terms = terms_same w;
        row = more (out_at cs) self u L.row (map_snoc (λ (e : Emit). e.row) o.emitted _) refl;
        rewritten = more (out_at cs) (mark_at cs) u L.rewritten (map_snoc (λ (e : Emit). mark e.rewritten) o.emitted _) (ap mark (sym w));
        rhs = more (out_at cs) (side_at cs bs M.rhs) u L.rhs (map_snoc (λ (e : Emit). e.rhs) o.emitted _) (side_written w);
        from = more (out_at cs) (from_at cs rows M.starts) u L.from (map_snoc (λ (e : Emit). e.from) o.emitted _) (from_written w);
        upto = more (out_at cs) (upto_at cs rows M.starts) u L.upto (map_snoc (λ (e : Emit). e.upto) o.emitted _) (upto_written w);
      }

  lists_rewritten : kept_at cs r ≡ true → out_at cs r ≡ true → rewritten_at cs r ≡ true
      → FateLists M cs bs rows (suc r) (emit_rewritten M r (at bs r) (sort_terms ((get_or rows r no_row).terms ++ (get_or rows r no_row).folded)) o)
  lists_rewritten k u w =
      record {
        kept = more (kept_at cs) self k L.kept refl refl;
        terms = terms_more w;
        row = more (out_at cs) self u L.row (map_snoc (λ (e : Emit). e.row) o.emitted _) refl;
        rewritten = more (out_at cs) (mark_at cs) u L.rewritten (map_snoc (λ (e : Emit). mark e.rewritten) o.emitted _) (ap mark (sym w));
        rhs = more (out_at cs) (side_at cs bs M.rhs) u L.rhs (map_snoc (λ (e : Emit). e.rhs) o.emitted _) (side_rewritten w);
        from = more (out_at cs) (from_at cs rows M.starts) u L.from (map_snoc (λ (e : Emit). e.from) o.emitted _) (from_rewritten w);
        upto = more (out_at cs) (upto_at cs rows M.starts) u L.upto (map_snoc (λ (e : Emit). e.upto) o.emitted _) (upto_rewritten w);
      }

  lists_by : (c : ℕ) → get_or cs r 0 ≡ c → FateLists M cs bs rows (suc r) (out_by M r c (at bs r) (get_or rows r no_row) o)
  unfolding out_by is_kept is_out is_rewritten
  lists_by zero e = lists_same (rw e) (rw e) (rw e)
  lists_by (suc zero) e = lists_written (rw e) (rw e) (rw e)
  lists_by (suc (suc zero)) e = lists_rewritten (rw e) (rw e) (rw e)
  lists_by (suc (suc (suc c))) e =
      let x = ne_eqb (get_or cs r 0) 1 (λ q. omega (arith, e, q)) in
      let y = ne_eqb (get_or cs r 0) 2 (λ q. omega (arith, e, q)) in
      lists_kept (lt-ltb 1 (get_or cs r 0) (omega (arith, e))) (rw (x, y)) y

lists_fates : (M : Model) (cs : List ℕ) (bs : List Float) (rows : List Row) (n : ℕ) → FateLists M cs bs rows n (out_fates M cs bs rows n)
unfolding out_fates collect terms_of
lists_fates M cs bs rows zero = record { kept = refl; terms = refl; row = refl; rewritten = refl; rhs = refl; from = refl; upto = refl }
lists_fates M cs bs rows (suc r) = lists_by (lists_fates M cs bs rows r) (get_or cs r 0) refl

-- what goes out of settled rows whose fates are cs, list by list
pub out_lists : (M : Model) (cs : List ℕ) (bs : List Float) (rows : List Row) (n : ℕ) → Fates M cs bs rows n → FateLists M cs bs rows n (out_of M rows n)
out_lists M cs bs rows n h = rw (out_fates_lem M cs bs rows n h) (lists_fates M cs bs rows n)
