-- What the pass that writes leaves: each list of the file at the front of its slice, and the rest as it was.
use Rattle.std.specs.Prelude.{ℕ, zero, suc, ◌+◌, ◌≤◌, ◌≡◌, refl, List, [], ◌∷◌, ◌++◌, map, length, set}
use Rattle.std.proofs.Common.{ap, sym, ◌∙◌, add-zero, zero-add, add-one, arith}
use Rattle.std.proofs.lemmas.List.{map-append, length-map}
use Rattle.std.proofs.lemmas.List.Edits.{sets, sets-eq}
use Rattle.model_file.specs.declared.Variable.{Variable}
use Rattle.model_file.specs.declared.Term.{Term}
use Rattle.model_file.specs.declared.Settings.{Settings}
use Rattle.model_file.specs.Format.{Got, refused, got, Parser, many, settings, variable, term, head, row, Row, rows, ends, all_terms, Lists, lists, end, whole, file, decoded, decode}
use Rattle.model_file.specs.Places.{then_got}
use Rattle.model_file.specs.Reading.{Slices, over}
use Rattle.model_file.specs.Skips.{taken, row_sized}
use Rattle.model_file.specs.Fills.{case_got, fill, put_var, put_term, put_head, fill_row, fill_rows, fill_rows_cons, row_read}

-- ---- parts that were read, each to its place
unfoldable pub put_all : {A C : Type 0} → (ℕ → A → C → C) → List A → ℕ → C → C
put_all put [] i c = c
put_all put (x ∷ xs) i c = put_all put xs (suc i) (put i x c)

fill_cons : {A C : Type 0} (p : Parser A) (put : ℕ → A → C → C) (n : ℕ) (s : List ℕ) (i : ℕ) (c : C) {x : A} {r : List ℕ} → p s ≡ got x r
    → fill p put (suc n) s i c ≡ fill p put n r (suc i) (put i x c)
unfolding fill case_got
fill_cons p put n s i c e = rw e

pub fill_all : {A C : Type 0} (p : Parser A) (put : ℕ → A → C → C) (n : ℕ) (s : List ℕ) (i : ℕ) (c : C) (xs : List A) (r : List ℕ) → many p n s ≡ got xs r → fill p put n s i c ≡ put_all put xs i c
unfolding many fill put_all
fill_all p put zero s i c xs r e = let z : xs ≡ [] = cc in rw z
fill_all p put (suc n) s i c xs r e =
    let a = taken (p s) _ xs r e in
    let b = taken (many p n a.rest) _ xs r a.more in
    let z : xs ≡ a.value ∷ b.value = cc in
    fill_cons p put n s i c a.is ∙ fill_all p put n a.rest (suc i) (put i a.value c) b.value b.rest b.is ∙ ap (λ (l : List _). put_all put l i c) (sym z)

pub put_vars : (vs : List Variable) (i : ℕ) (c : Slices) → put_all put_var vs i c
    ≡ record c {
      objective = sets c.objective i (map (λ (v : Variable). v.objective) vs);
      lower = sets c.lower i (map (λ (v : Variable). v.lower) vs);
      upper = sets c.upper i (map (λ (v : Variable). v.upper) vs);
      domain = sets c.domain i (map (λ (v : Variable). v.domain) vs);
    }
unfolding put_all
put_vars [] i c = refl
put_vars (v ∷ vs) i c = put_vars vs (suc i) (put_var i v c)

-- the terms ts from place t on
abbrev pub with_terms : List Term → ℕ → Slices → Slices
with_terms ts t c = record c { index = sets c.index t (map (λ (x : Term). x.index) ts); coeff = sets c.coeff t (map (λ (x : Term). x.coeff) ts) }

pub put_terms : (ts : List Term) (t : ℕ) (c : Slices) → put_all put_term ts t c ≡ with_terms ts t c
unfolding put_all
put_terms [] t c = refl
put_terms (x ∷ ts) t c = put_terms ts (suc t) (put_term t x c)

-- ---- rows
abbrev pub with_rows : List Row → ℕ → ℕ → Slices → Slices
with_rows rs r t c =
    record c {
      starts = sets c.starts (suc r) (ends t rs);
      index = sets c.index t (map (λ (x : Term). x.index) (all_terms rs));
      coeff = sets c.coeff t (map (λ (x : Term). x.coeff) (all_terms rs));
      cmp = sets c.cmp r (map (λ (x : Row). x.head.cmp) rs);
      rhs = sets c.rhs r (map (λ (x : Row). x.head.rhs) rs);
    }

-- row r, with t terms before it
abbrev with_row : Row → ℕ → ℕ → Slices → Slices
with_row x r t c = with_terms x.terms t (put_head r (t + x.head.count) x.head c)

put_row_lem : (r t : ℕ) (s : List ℕ) (c : Slices) (x : Row) (a : List ℕ) → row t s ≡ got x a → fill_row r t s c ≡ with_row x r t c
unfolding row
put_row_lem r t s c x a e =
    let h = taken (head t s) _ x a e in
    let ts = taken (many term h.value.count h.rest) _ x a h.more in
    let z : x ≡ record { head = h.value; terms = ts.value } = cc in
    let d = put_head r (t + h.value.count) h.value c in
    let k = fill_all term put_term h.value.count h.rest t d ts.value ts.rest ts.is ∙ put_terms ts.value t d in
    sym (row_read t s r c h.is (sym k)) ∙ ap (λ (y : Row). with_row y r t c) (sym z)

pub sets_append : {A : Type 0} (xs ys l : List A) (i : ℕ) → sets (sets l i xs) (i + length xs) ys ≡ sets l i (xs ++ ys)
sets_append [] ys l i = rw add-zero
sets_append (x ∷ xs) ys l i = let z : i + suc (length xs) ≡ suc i + length xs = omega arith in rw z (sets_append xs ys (set l i x) (suc i))

terms_append : (ts us : List Term) (t n : ℕ) (c : Slices) → length ts ≡ n → with_terms us (t + n) (with_terms ts t c) ≡ with_terms (ts ++ us) t c
terms_append ts us t n c e =
    let i : length (map (λ (x : Term). x.index) ts) ≡ n = length-map ts (λ (x : Term). x.index) ∙ e in
    let a : length (map (λ (x : Term). x.coeff) ts) ≡ n = length-map ts (λ (x : Term). x.coeff) ∙ e in
    let u = sets_append (map (λ (x : Term). x.index) ts) (map (λ (x : Term). x.index) us) c.index t ∙ ap (sets c.index t) (sym (map-append (λ (x : Term). x.index) ts us)) in
    let v = sets_append (map (λ (x : Term). x.coeff) ts) (map (λ (x : Term). x.coeff) us) c.coeff t ∙ ap (sets c.coeff t) (sym (map-append (λ (x : Term). x.coeff) ts us)) in
    λ j. record c { index = (rw i at u) j; coeff = (rw a at v) j }

with_cons : (x : Row) (rs : List Row) (r t : ℕ) (c : Slices) → length x.terms ≡ x.head.count → with_rows rs (suc r) (t + x.head.count) (with_row x r t c) ≡ with_rows (x ∷ rs) r t c
unfolding ends all_terms
with_cons x rs r t c e =
    let k = terms_append x.terms (all_terms rs) t x.head.count c e in
    let z : set c.starts (r + 1) (t + x.head.count) ≡ set c.starts (suc r) (t + x.head.count) = rw add-one in
    λ j. record (k j) {
      starts = sets (z j) (suc (suc r)) (ends (t + x.head.count) rs);
      cmp = sets (set c.cmp r x.head.cmp) (suc r) (map (λ (x : Row). x.head.cmp) rs);
      rhs = sets (set c.rhs r x.head.rhs) (suc r) (map (λ (x : Row). x.head.rhs) rs);
    }

pub put_rows : (n : ℕ) (s : List ℕ) (r t : ℕ) (c : Slices) (rs : List Row) (a : List ℕ) → rows n t s ≡ got rs a → fill_rows n s r t c ≡ with_rows rs r t c
unfolding rows fill_rows ends all_terms
put_rows zero s r t c rs a e = let z : rs ≡ [] = cc in rw z
put_rows (suc n) s r t c rs a e =
    let x = taken (row t s) _ rs a e in
    let xs = taken (rows n (t + x.value.head.count) x.rest) _ rs a x.more in
    let z : rs ≡ x.value ∷ xs.value = cc in
    let k = with_row x.value r t c in
    let p : fill_row r t s c ≡ k = put_row_lem r t s c x.value x.rest x.is in
    fill_rows_cons n s r t c x.is
    ∙ ap (fill_rows n x.rest (suc r) (t + x.value.head.count)) p
    ∙ put_rows n x.rest (suc r) (t + x.value.head.count) k xs.value xs.rest xs.is
    ∙ with_cons x.value xs.value r t c (row_sized t s x.value x.rest x.is)
    ∙ ap (λ (l : List Row). with_rows l r t c) (sym z)

pub over_sets : {A : Type 0} (xs l : List A) → length xs ≤ length l → sets l 0 xs ≡ over xs l
unfolding over
over_sets xs l h = let z : 0 + length xs ≡ length xs = zero-add (length xs) in sets-eq xs l 0 (rw z h) ∙ rw z

-- ---- the file that is read
pub record Opened (b : List ℕ) (h : Settings) (f : Lists) : Type 0 where
  pub vars : List Variable
  pub rest : List ℕ
  pub row_list : List Row
  pub is_vars : many variable h.vars b ≡ got vars rest
  pub is_rows : rows h.rows 0 rest ≡ got row_list []
  pub is_lists : f ≡ lists h vars row_list

-- what is decoded is the whole of the bytes
decoded_file : (g : Got Lists) (f : Lists) → decoded g ≡ file f → (r : List ℕ) × (g ≡ got f r)
unfolding decoded
decoded_file (refused n) f e = absurd (let z : ◌≡◌ {A = ℕ} 0 1 = cc in omega arith)
decoded_file (got g r) f e = (r, ap (λ (x : Lists). got x r) (cc))

ended : (s r : List ℕ) → end s ≡ got tt r → s ≡ []
unfolding end
ended [] r e = refl
ended (b ∷ s) r e = absurd (let z : ◌≡◌ {A = ℕ} 0 1 = cc in omega arith)

pub opened : (s : List ℕ) {b : List ℕ} {h : Settings} {f : Lists} → settings s ≡ got h b → decode s ≡ file f → Opened b h f
unfolding decode whole
opened s {b} {h} {f} p e =
    let d = decoded_file (whole s) f e in
    let w = sym (then_got _ p) ∙ d.1 in
    let v = taken (many variable h.vars b) _ f d.0 w in
    let r = taken (rows h.rows 0 v.rest) _ f d.0 v.more in
    let n = taken (end r.rest) _ f d.0 r.more in
    let z : f ≡ lists h v.value r.value = cc in
    record { vars = v.value; rest = v.rest; row_list = r.value; is_vars = v.is; is_rows = r.is ∙ ap (got r.value) (ended r.rest n.rest n.is); is_lists = z }
