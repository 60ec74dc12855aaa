-- Which variables the rows keep from moving: the definition's lists, as the working slices have the rows.
use Prim.Native.Nat.{ℕ, zero, suc, ◌+◌, ◌≤◌, ◌<◌}
use Rattle.std.proofs.Common.{arith, add-one, ◌∙◌, take-suc}
use Rattle.std.specs.Prelude.{◌≡◌, Bool, length, Float}
use Rattle.std.proofs.Math.Path.{refl, ap, sym}
use Rattle.std.proofs.Math.Bool.{true, false}
use mathlib.Core.List.{List, [], ◌∷◌, ◌++◌}
use Rattle.std.proofs.Math.ListN.{get_or, take}
use Rattle.std.specs.Float.{nan}
use Rattle.floats.specs.Num.{choose, is_finite}
use Rattle.tolerances.specs.Tol.{Term, term, at}
use Rattle.definition.specs.Model.{Model, Row, from}
use Rattle.definition.specs.Work.{Work, no_row, no_term}
use Rattle.definition.specs.Dual.{block_terms, bad_dec, bad_inc}
use Rattle.formulas.specs.Fixing.{blocks_at}
use Rattle.space.specs.declared.Context.{Context}
use Rattle.space.specs.Store.{Floats, Numbers}
use Rattle.view.specs.Shows.{is_one, Shows, RowShown, parts_of}
use Rattle.view.specs.Lists.{yes, no, one_is, one_not}
use Rattle.view.specs.Acts.{Ready}
use Rattle.view.specs.Known.{Spans}
use Rattle.readers.specs.Reading.{row_of}
use Rattle.readers.specs.RowAt.{RowAt, row_ready}
use Rattle.dual.specs.Flags.{take_whole, Flags, with_bad, barred, flags_same, flags_then, flags_none}

-- ---- a row's terms: the k terms from place a on
unfoldable pub terms_at : List Float → List ℕ → ℕ → ℕ → List Term
terms_at cs vs a zero = []
terms_at cs vs a (suc k) = terms_at cs vs a k ++ (term (get_or vs (a + k) 0) (at cs (a + k)) ∷ [])

block_one : (pos neg : Bool) (v : ℕ) (x : Float) (l : List Bool) → barred (blocks_at x pos neg) v l ≡ block_terms pos neg (term v x ∷ []) l
unfolding block_terms blocks_at
block_one pos neg v x l = refl

block_nil : (pos neg : Bool) (cs : List Float) (vs : List ℕ) (a : ℕ) (l : List Bool) → l ≡ block_terms pos neg (terms_at cs vs a 0) l
unfolding block_terms terms_at
block_nil pos neg cs vs a l = refl

block_append : (pos neg : Bool) (ts us : List Term) (l : List Bool) → block_terms pos neg (ts ++ us) l ≡ block_terms pos neg us (block_terms pos neg ts l)
unfolding block_terms
block_append pos neg [] us l = refl
block_append pos neg (t ∷ ts) us l = block_append pos neg ts us _

block_next : (pos neg : Bool) (cs : List Float) (vs : List ℕ) (a i : ℕ) (l : List Bool) → block_terms pos neg (term (get_or vs (a + i) 0) (at cs (a + i)) ∷ [])
    (block_terms pos neg (terms_at cs vs a i) l) ≡ block_terms pos neg (terms_at cs vs a (i + 1)) l
unfolding terms_at
block_next pos neg cs vs a i l = rw add-one (sym (block_append pos neg (terms_at cs vs a i) (term (get_or vs (a + i) 0) (at cs (a + i)) ∷ []) l))

-- block_term: of the variable v with the coefficient x
pub term_bars : (ge le : Bool) {n n₁ n₂ : Numbers} {u v : ℕ} {y x : Float} {b₁ b₂ : Bool} → u ≡ v → y ≡ x → b₁ ≡ blocks_at y ge le → Flags n n₁ (barred b₁ u)
    (λ l. l) → b₂ ≡ blocks_at y le ge → Flags n₁ n₂ (λ l. l) (barred b₂ u)
    → Flags n n₂ (block_terms ge le (term v x ∷ [])) (block_terms le ge (term v x ∷ []))
term_bars ge le {u = u} {y = y} ev ex e₁ a₁ e₂ a₂ =
    flags_same (flags_then a₁ a₂)
    (λ l. rw (← ev, ← ex) (ap (λ (b : Bool). barred b u l) e₁ ∙ block_one ge le u y l))
    (λ l. rw (← ev, ← ex) (ap (λ (b : Bool). barred b u l) e₂ ∙ block_one le ge u y l))

-- the k terms from place a on have variables of the model
pub record TermsBelow (s : Context) (n : Numbers) (a k : ℕ) : Type 0 where
  pub below : (j : ℕ) → j < k → get_or n.vars (a + j) 0 < s.vars

-- block_terms: after the first i of the k terms from place a on
pub record Barring (s : Context) (a k i : ℕ) (ge le : Bool) (f : Floats) (n₀ n : Numbers) : Type 0 where
  pub upto : i ≤ k
  pub flags : Flags n₀ n (block_terms ge le (terms_at f.coeffs n₀.vars a i)) (block_terms le ge (terms_at f.coeffs n₀.vars a i))

pub bar_start : {s : Context} (a k : ℕ) (ge le : Bool) (f : Floats) {n : Numbers} → Barring s a k 0 ge le f n n
bar_start a k ge le f {n} =
    record { upto = omega arith; flags = flags_none (block_nil ge le f.coeffs n.vars a) (block_nil le ge f.coeffs n.vars a) }

module _ {s : Context} {a k i : ℕ} {ge le : Bool} {f : Floats} {n₀ n : Numbers} (B : Barring s a k i ge le f n₀ n) where
  bar_vars : n.vars ≡ n₀.vars
  bar_vars = ap (λ (z : Numbers). z.vars) B.flags.same

  pub bar_var : TermsBelow s n₀ a k → i < k → get_or n.vars (a + i) 0 < s.vars
  bar_var h p = rw bar_vars (h.below i p)

  pub bar_turn : {n₁ : Numbers} → i < k → Flags n n₁ (block_terms ge le (term (get_or n.vars (a + i) 0) (at f.coeffs (a + i)) ∷ []))
      (block_terms le ge (term (get_or n.vars (a + i) 0) (at f.coeffs (a + i)) ∷ []))
      → Barring s a k (i + 1) ge le f n₀ n₁
  bar_turn p t =
      record {
        upto = omega (arith, p);
        flags =
            flags_same (flags_then B.flags t)
            (λ l. rw bar_vars (block_next ge le f.coeffs n₀.vars a i l))
            (λ l. rw bar_vars (block_next le ge f.coeffs n₀.vars a i l));
      }

  pub bar_end : k ≤ i → Flags n₀ n (block_terms ge le (terms_at f.coeffs n₀.vars a k)) (block_terms le ge (terms_at f.coeffs n₀.vars a k))
  bar_end p =
      let z : i ≡ k = omega (arith, p, B.upto) in
      flags_same B.flags (λ l. ap (λ (j : ℕ). block_terms ge le (terms_at f.coeffs n₀.vars a j) l) z) (λ l. ap (λ (j : ℕ). block_terms le ge (terms_at f.coeffs n₀.vars a j) l) z)

-- ---- block_row: row r, where it is alive
abbrev pub row_bars : List ℕ → Floats → Numbers → ℕ → Bool → Bool → List Bool → List Bool
row_bars ss f n r pos neg l = choose (is_one (get_or n.alive r 0)) (block_terms pos neg (terms_at f.coeffs n.vars (get_or ss r 0) (get_or n.len r 0)) l) l

unfoldable pub fall_bars : List ℕ → Floats → Numbers → ℕ → List Bool → List Bool
fall_bars ss f n r l = row_bars ss f n r (is_finite (at f.lo r)) (is_finite (at f.hi r)) l

unfoldable pub rise_bars : List ℕ → Floats → Numbers → ℕ → List Bool → List Bool
rise_bars ss f n r l = row_bars ss f n r (is_finite (at f.hi r)) (is_finite (at f.lo r)) l

pub row_dead : (ss : List ℕ) (f : Floats) (r : ℕ) {n : Numbers} {d : ℕ} → d ≡ get_or n.alive r 0 → (d ≡ 1 → ⊥) → Flags n n (fall_bars ss f n r) (rise_bars ss f n r)
unfolding fall_bars rise_bars
row_dead ss f r {n} {d} e ne =
    let z : is_one (get_or n.alive r 0) ≡ false = ap is_one (sym e) ∙ one_not d ne in
    flags_none (λ l. sym (no _ _ z)) (λ l. sym (no _ _ z))

pub row_bars_lem : (ss : List ℕ) (f : Floats) (r : ℕ) {n n' : Numbers} {d k : ℕ} {lo hi : Float} {ge le : Bool} → d ≡ get_or n.alive r 0 → d ≡ 1
    → k ≡ get_or n.len r 0 → lo ≡ get_or f.lo r nan → ge ≡ is_finite lo → hi ≡ get_or f.hi r nan → le ≡ is_finite hi
    → Flags n n' (block_terms ge le (terms_at f.coeffs n.vars (get_or ss r 0) k)) (block_terms le ge (terms_at f.coeffs n.vars (get_or ss r 0) k))
    → Flags n n' (fall_bars ss f n r) (rise_bars ss f n r)
unfolding fall_bars rise_bars
row_bars_lem ss f r {n} {d = d} e one ek el eg eh ee a =
    let z : is_one (get_or n.alive r 0) ≡ true = ap is_one (sym e ∙ one) ∙ one_is in
    let g = eg ∙ ap is_finite el in
    let h = ee ∙ ap is_finite eh in
    flags_same a (λ l. rw (g, h, ek) (sym (yes _ _ z))) (λ l. rw (g, h, ek) (sym (yes _ _ z)))

-- ---- block_rows: the rows below j
unfoldable pub each_row : (ℕ → List Bool → List Bool) → ℕ → List Bool → List Bool
each_row g zero l = l
each_row g (suc j) l = g j (each_row g j l)

each_nil : (g : ℕ → List Bool → List Bool) (l : List Bool) → l ≡ each_row g 0 l
unfolding each_row
each_nil g l = refl

each_next : (g : ℕ → List Bool → List Bool) (j : ℕ) (l : List Bool) → g j (each_row g j l) ≡ each_row g (j + 1) l
unfolding each_row
each_next g j l = rw add-one refl

pub record BarredRows (ss : List ℕ) (s : Context) (r : ℕ) (f : Floats) (n₀ n : Numbers) : Type 0 where
  pub upto : r ≤ s.rows
  pub ready : Ready (Spans ss) s f n
  pub flags : Flags n₀ n (each_row (fall_bars ss f n₀) r) (each_row (rise_bars ss f n₀) r)

pub rows_start : {ss : List ℕ} {s : Context} {f : Floats} {n : Numbers} → Ready (Spans ss) s f n → BarredRows ss s 0 f n n
rows_start {ss} {f = f} {n} R =
    record { upto = omega arith; ready = R; flags = flags_none (each_nil (fall_bars ss f n)) (each_nil (rise_bars ss f n)) }

-- the flags are no part of what a row is read from
fall_same : (ss : List ℕ) (f : Floats) (n₀ : Numbers) {n : Numbers} (d i : List ℕ) (r : ℕ) (l : List Bool) → n ≡ with_bad d i n₀ → fall_bars ss f n r l ≡ fall_bars ss f n₀ r l
unfolding fall_bars
fall_same ss f n₀ d i r l e = rw e refl

rise_same : (ss : List ℕ) (f : Floats) (n₀ : Numbers) {n : Numbers} (d i : List ℕ) (r : ℕ) (l : List Bool) → n ≡ with_bad d i n₀ → rise_bars ss f n r l ≡ rise_bars ss f n₀ r l
unfolding rise_bars
rise_same ss f n₀ d i r l e = rw e refl

module _ {ss : List ℕ} {s : Context} {r : ℕ} {f : Floats} {n₀ n : Numbers} (R : BarredRows ss s r f n₀ n) where
  pub rows_turn : {n₁ : Numbers} → r < s.rows → Flags n n₁ (fall_bars ss f n r) (rise_bars ss f n r) → Ready (Spans ss) s f n₁ → BarredRows ss s (r + 1) f n₀ n₁
  rows_turn p t y =
      record {
        upto = omega (arith, p);
        ready = y;
        flags =
            flags_same (flags_then R.flags t)
            (λ l. fall_same ss f n₀ R.flags.decs R.flags.incs r _ R.flags.same ∙ each_next (fall_bars ss f n₀) r l)
            (λ l. rise_same ss f n₀ R.flags.decs R.flags.incs r _ R.flags.same ∙ each_next (rise_bars ss f n₀) r l);
      }

  pub rows_end : s.rows ≤ r → Flags n₀ n (each_row (fall_bars ss f n₀) s.rows) (each_row (rise_bars ss f n₀) s.rows)
  rows_end p =
      let z : r ≡ s.rows = omega (arith, p, R.upto) in
      flags_same R.flags (λ l. ap (λ (j : ℕ). each_row (fall_bars ss f n₀) j l) z) (λ l. ap (λ (j : ℕ). each_row (rise_bars ss f n₀) j l) z)

-- what block_terms asks for, of an alive row
module _ {ss : List ℕ} {s : Context} {f : Floats} {n : Numbers} {r d : ℕ} (R : Ready (Spans ss) s f n) (p : r < s.rows) (e : d ≡ get_or n.alive r 0) (one : d ≡ 1) where
  row : RowAt ss s f n r (row_of R.work r)
  row = row_ready R (λ M q. q) p (sym e ∙ one)

  pub row_long_lem : r < length ss
  row_long_lem = omega (arith, row.long)

  pub row_fits : {k : ℕ} → k ≡ get_or n.len r 0 → get_or ss r 0 + k ≤ s.terms
  row_fits ek = omega (arith, ek, row.len, row.fits, row.last)

  pub row_below : {k : ℕ} → k ≡ get_or n.len r 0 → TermsBelow s n (get_or ss r 0) k
  row_below ek = record { below = λ j l. let t = row.terms j (omega (arith, l, ek, row.len)) in omega (arith, t.var, t.below) }

-- ---- the whole is the definition's
dec_append : (xs ys : List Row) (l : List Bool) → bad_dec (xs ++ ys) l ≡ bad_dec ys (bad_dec xs l)
unfolding bad_dec
dec_append [] ys l = refl
dec_append (x ∷ xs) ys l = dec_append xs ys _

inc_append : (xs ys : List Row) (l : List Bool) → bad_inc (xs ++ ys) l ≡ bad_inc ys (bad_inc xs l)
unfolding bad_inc
inc_append [] ys l = refl
inc_append (x ∷ xs) ys l = inc_append xs ys _

dec_one : (x : Row) (l : List Bool) → choose x.alive (block_terms (is_finite x.lo) (is_finite x.hi) x.terms l) l ≡ bad_dec (x ∷ []) l
unfolding bad_dec
dec_one x l = refl

inc_one : (x : Row) (l : List Bool) → choose x.alive (block_terms (is_finite x.hi) (is_finite x.lo) x.terms l) l ≡ bad_inc (x ∷ []) l
unfolding bad_inc
inc_one x l = refl

dec_nil : (l : List Bool) → l ≡ bad_dec [] l
unfolding bad_dec
dec_nil l = refl

inc_nil : (l : List Bool) → l ≡ bad_inc [] l
unfolding bad_inc
inc_nil l = refl

module _ {M : Model} {f : Floats} {n : Numbers} {o : List ℕ} {w : Work} {ss : List ℕ} (h : Shows M f n o w) (e : M.starts ≡ ss) where
  terms_take : (r k : ℕ) → RowShown M (parts_of f n) r (row_of w r) → k ≤ length (row_of w r).terms → terms_at f.coeffs n.vars (get_or ss r 0) k ≡ take k (row_of w r).terms
  unfolding terms_at from
  terms_take r zero x p = refl
  terms_take r (suc k) x p =
      let ts = (row_of w r).terms in
      let t = x.terms k (omega (arith, p)) in
      let z : get_or M.starts r 0 + k ≡ get_or ss r 0 + k = ap (λ (l : List ℕ). get_or l r 0 + k) e in
      let tv : get_or n.vars (get_or ss r 0 + k) 0 ≡ (get_or ts k no_term).var = ap (λ (j : ℕ). get_or n.vars j 0) (sym z) ∙ t.var in
      let tc : at f.coeffs (get_or ss r 0 + k) ≡ (get_or ts k no_term).coeff = ap (λ (j : ℕ). at f.coeffs j) (sym z) ∙ t.coeff in
      let tt : term (get_or n.vars (get_or ss r 0 + k) 0) (at f.coeffs (get_or ss r 0 + k)) ≡ get_or ts k no_term = λ m. term (tv m) (tc m) in
      ap (λ (l : List Term). l ++ (term (get_or n.vars (get_or ss r 0 + k) 0) (at f.coeffs (get_or ss r 0 + k)) ∷ [])) (terms_take r k x (omega (arith, p)))
      ∙ ap (λ (y : Term). take k ts ++ (y ∷ [])) tt ∙ sym (take-suc ts k no_term (omega (arith, p)))

  terms_are : (r : ℕ) → RowShown M (parts_of f n) r (row_of w r) → terms_at f.coeffs n.vars (get_or ss r 0) (get_or n.len r 0) ≡ (row_of w r).terms
  terms_are r x = ap (terms_at f.coeffs n.vars (get_or ss r 0)) x.len ∙ terms_take r (length (row_of w r).terms) x (omega arith) ∙ take_whole (row_of w r).terms

  -- by whether the row is alive
  row_fall : (r : ℕ) → r < length M.rhs → (b : Bool) → (row_of w r).alive ≡ b → (l : List Bool) → fall_bars ss f n r l ≡ bad_dec (row_of w r ∷ []) l
  unfolding fall_bars
  row_fall r p true a l =
      let x = h.rows r p a in
      yes _ _ (h.alive r p ∙ a) ∙ cc (x.lo, x.hi, terms_are r x) ∙ sym (yes (block_terms (is_finite (row_of w r).lo) (is_finite (row_of w r).hi) (row_of w r).terms l) l a) ∙ dec_one (row_of w r) l
  row_fall r p false a l = no _ _ (h.alive r p ∙ a) ∙ sym (no (block_terms (is_finite (row_of w r).lo) (is_finite (row_of w r).hi) (row_of w r).terms l) l a) ∙ dec_one (row_of w r) l

  row_rise : (r : ℕ) → r < length M.rhs → (b : Bool) → (row_of w r).alive ≡ b → (l : List Bool) → rise_bars ss f n r l ≡ bad_inc (row_of w r ∷ []) l
  unfolding rise_bars
  row_rise r p true a l =
      let x = h.rows r p a in
      yes _ _ (h.alive r p ∙ a) ∙ cc (x.lo, x.hi, terms_are r x) ∙ sym (yes (block_terms (is_finite (row_of w r).hi) (is_finite (row_of w r).lo) (row_of w r).terms l) l a) ∙ inc_one (row_of w r) l
  row_rise r p false a l = no _ _ (h.alive r p ∙ a) ∙ sym (no (block_terms (is_finite (row_of w r).hi) (is_finite (row_of w r).lo) (row_of w r).terms l) l a) ∙ inc_one (row_of w r) l

  module _ (q : length w.rows ≡ length M.rhs) where
    fall_take : (j : ℕ) → j ≤ length w.rows → (l : List Bool) → each_row (fall_bars ss f n) j l ≡ bad_dec (take j w.rows) l
    unfolding each_row
    fall_take zero p l = dec_nil l
    fall_take (suc j) p l =
        row_fall j (omega (arith, p, q)) (row_of w j).alive refl (each_row (fall_bars ss f n) j l) ∙ ap (bad_dec (row_of w j ∷ [])) (fall_take j (omega (arith, p)) l)
        ∙ sym (dec_append (take j w.rows) (row_of w j ∷ []) l) ∙ ap (λ (xs : List Row). bad_dec xs l) (sym (take-suc w.rows j no_row (omega (arith, p))))

    rise_take : (j : ℕ) → j ≤ length w.rows → (l : List Bool) → each_row (rise_bars ss f n) j l ≡ bad_inc (take j w.rows) l
    unfolding each_row
    rise_take zero p l = inc_nil l
    rise_take (suc j) p l =
        row_rise j (omega (arith, p, q)) (row_of w j).alive refl (each_row (rise_bars ss f n) j l) ∙ ap (bad_inc (row_of w j ∷ [])) (rise_take j (omega (arith, p)) l)
        ∙ sym (inc_append (take j w.rows) (row_of w j ∷ []) l) ∙ ap (λ (xs : List Row). bad_inc xs l) (sym (take-suc w.rows j no_row (omega (arith, p))))

    pub falls_are : (j : ℕ) → j ≡ length w.rows → (l : List Bool) → each_row (fall_bars ss f n) j l ≡ bad_dec w.rows l
    falls_are j e l = fall_take j (omega (arith, e)) l ∙ ap (λ (i : ℕ). bad_dec (take i w.rows) l) e ∙ ap (λ (xs : List Row). bad_dec xs l) (take_whole w.rows)

    pub rises_are : (j : ℕ) → j ≡ length w.rows → (l : List Bool) → each_row (rise_bars ss f n) j l ≡ bad_inc w.rows l
    rises_are j e l = rise_take j (omega (arith, e)) l ∙ ap (λ (i : ℕ). bad_inc (take i w.rows) l) e ∙ ap (λ (xs : List Row). bad_inc xs l) (take_whole w.rows)
