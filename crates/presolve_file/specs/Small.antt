-- A file that is decoded has at most 128 variables, 128 rows and 512 terms, and lists of matching lengths.
use Rattle.std.specs.Prelude.{ℕ, zero, suc, ◌+◌, ◌≤◌, ◌≡◌, refl, Bool, true, false, List, [], ◌∷◌, length, ltb}
use Rattle.std.proofs.Common.{arith, ap, sym, ◌∙◌, ltb-false}
use Rattle.std.proofs.lemmas.List.{length-map}
use Rattle.model_file.specs.declared.Variable.{Variable}
use Rattle.model_file.specs.declared.Term.{Term}
use Rattle.model_file.specs.declared.RowHead.{RowHead}
use Rattle.model_file.specs.declared.Settings.{Settings}
use Rattle.model_file.specs.Format.{Got, refused, got, and_then, refuse, byte, number, float, optional, count, code, rules, settings, variable, many}
use Rattle.model_file.specs.Format.{side, head, term, row, Row, rows, ends, all_terms, Lists, lists, whole, refusal, file, decoded, decode}
use Rattle.model_file.specs.Skips.{taken, after, after_length, many_length, rows_are_lem}
use Rattle.model_file.specs.Leaves.{opened}

-- ---- what was not refused
allowed : (n : ℕ) (b : Bool) (s : List ℕ) (u : Unit {0}) (r : List ℕ) → refuse n b s ≡ got u r → b ≡ false
unfolding refuse
allowed n true s u r e = absurd (let z : ◌≡◌ {A = ℕ} 0 1 = cc in omega arith)
allowed n false s u r e = refl

counted : (s : List ℕ) (n : ℕ) (r : List ℕ) → count s ≡ got n r → n ≤ 128
unfolding count
counted s n r e =
    let a = taken (number 2 s) _ n r e in
    let b = taken (refuse 14 (ltb 128 a.value) a.rest) _ n r a.more in
    let z : n ≡ a.value = cc in
    omega (arith, z, ltb-false 128 a.value (allowed 14 (ltb 128 a.value) a.rest b.value b.rest b.is))

ruled : (n m : ℕ) (s : List ℕ) (h : Settings) (r : List ℕ) → rules n m s ≡ got h r → (h.vars ≡ n) × (h.rows ≡ m)
unfolding rules
ruled n m s h r e =
    let a = taken (float s) _ h r e in
    let b = taken (float a.rest) _ h r a.more in
    let c = taken (code b.rest) _ h r b.more in
    let z : h ≡ record { vars = n; rows = m; feasibility = a.value; int_tol = b.value; mode = c.value } = cc in
    (ap (λ (x : Settings). x.vars) z, ap (λ (x : Settings). x.rows) z)

few : (s : List ℕ) (h : Settings) (r : List ℕ) → settings s ≡ got h r → (h.vars ≤ 128) × (h.rows ≤ 128)
unfolding settings
few s h r e =
    let a = taken (count s) _ h r e in
    let b = taken (count a.rest) _ h r a.more in
    let z = ruled a.value b.value b.rest h r b.more in
    (omega (arith, z.0, counted s a.value a.rest a.is), omega (arith, z.1, counted a.rest b.value b.rest b.is))

-- ---- the terms of the rows, t terms before them
sided : (t m : ℕ) (s : List ℕ) (h : RowHead) (r : List ℕ) → side t m s ≡ got h r → t + h.count ≤ 512
unfolding side
sided t m s h r e =
    let a = taken (optional _ _ s) _ h r e in
    let b = taken (number 2 a.rest) _ h r a.more in
    let c = taken (refuse 14 (ltb 512 (t + b.value)) b.rest) _ h r b.more in
    let z : h.count ≡ b.value = cc in
    omega (arith, z, ltb-false 512 (t + b.value) (allowed 14 _ b.rest c.value c.rest c.is))

headed : (t : ℕ) (s : List ℕ) (h : RowHead) (r : List ℕ) → head t s ≡ got h r → t + h.count ≤ 512
unfolding head
headed t s h r e =
    let a = taken (byte s) _ h r e in
    let b = taken (refuse 12 _ a.rest) _ h r a.more in
    let c = taken (refuse 12 _ b.rest) _ h r b.more in
    sided t a.value c.rest h r c.more

rowed : (t : ℕ) (s : List ℕ) (x : Row) (r : List ℕ) → row t s ≡ got x r → t + x.head.count ≤ 512
unfolding row
rowed t s x r e =
    let a = taken (head t s) _ x r e in
    let b = taken (many term a.value.count a.rest) _ x r a.more in
    let z : x.head ≡ a.value = cc in
    omega (arith, ap (λ (h : RowHead). h.count) z, headed t s a.value a.rest a.is)

within : (n t : ℕ) (s : List ℕ) (rs : List Row) (r : List ℕ) → t ≤ 512 → rows n t s ≡ got rs r → after t rs ≤ 512
unfolding rows after
within zero t s rs r h e = let z : rs ≡ [] = cc in rw z h
within (suc n) t s rs r h e =
    let a = taken (row t s) _ rs r e in
    let b = taken (rows n (t + a.value.head.count) a.rest) _ rs r a.more in
    let z : rs ≡ a.value ∷ b.value = cc in
    rw z (within n (t + a.value.head.count) a.rest b.value b.rest (rowed t s a.value a.rest a.is) b.is)

-- ---- the lists
pub record Small (f : Lists) : Type 0 where
  pub vars : length f.objective ≤ 128
  pub lower : length f.lower ≡ length f.objective
  pub upper : length f.upper ≡ length f.objective
  pub domain : length f.domain ≡ length f.objective
  pub rows : length f.cmp ≤ 128
  pub rhs : length f.rhs ≡ length f.cmp
  pub starts : length f.starts ≡ length f.cmp + 1
  pub terms : length f.index ≤ 512
  pub coeff : length f.coeff ≡ length f.index

ends_length : (t : ℕ) (rs : List Row) → length (ends t rs) ≡ length rs
unfolding ends
ends_length t [] = refl
ends_length t (r ∷ rs) = ap suc (ends_length (t + r.head.count) rs)

lists_small : (h : Settings) (vs : List Variable) (rs : List Row) → length vs ≤ 128 → length rs ≤ 128 → length (all_terms rs) ≤ 512 → Small (lists h vs rs)
unfolding lists
lists_small h vs rs p q t =
    let o = length-map vs (λ (v : Variable). v.objective) in
    let c = length-map rs (λ (r : Row). r.head.cmp) in
    let i = length-map (all_terms rs) (λ (x : Term). x.index) in
    record {
      vars = omega (arith, o);
      lower = length-map vs (λ (v : Variable). v.lower) ∙ sym o;
      upper = length-map vs (λ (v : Variable). v.upper) ∙ sym o;
      domain = length-map vs (λ (v : Variable). v.domain) ∙ sym o;
      rows = omega (arith, c);
      rhs = length-map rs (λ (r : Row). r.head.rhs) ∙ sym c;
      starts = omega (arith, ends_length 0 rs, c);
      terms = omega (arith, i);
      coeff = length-map (all_terms rs) (λ (x : Term). x.coeff) ∙ sym i;
    }

small_by : (s : List ℕ) (f : Lists) (g : Got Settings) → settings s ≡ g → decode s ≡ file f → Small f
unfolding decode whole decoded and_then
small_by s f (refused n) p e = absurd (let y : refusal n ≡ file f = rw p at e in let z : ◌≡◌ {A = ℕ} 0 1 = cc in omega arith)
small_by s f (got h b) p e =
    let o = opened s p e in
    let l = few s h b p in
    let m = many_length variable h.vars b o.vars o.rest o.is_vars in
    let n = rows_are_lem h.rows 0 o.rest o.row_list [] o.is_rows in
    let t = within h.rows 0 o.rest o.row_list [] (omega arith) o.is_rows in
    rw o.is_lists (lists_small h o.vars o.row_list (omega (arith, l.0, m)) (omega (arith, l.1, n.count)) (omega (arith, t, after_length 0 o.row_list n.sized)))

pub small : (s : List ℕ) (f : Lists) → decode s ≡ file f → Small f
small s f e = small_by s f (settings s) refl e
