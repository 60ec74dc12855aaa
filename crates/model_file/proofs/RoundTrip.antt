-- What is encoded is read back.
use Rattle.std.specs.Prelude.{ℕ, zero, suc, ◌+◌, ◌-◌, ◌*◌, ◌/◌, ◌%◌, ◌^◌, ◌≤◌, ◌<◌, ◌≡◌, refl, List, [], ◌∷◌, ◌++◌, map, Bool, true, length, take, drop, Float}
use Rattle.std.proofs.Common.{ap, sym, subst, ◌∙◌, append_assoc, append-nil, arith, length-take, length-drop, take-append-drop, le-ltb, eq-eqb}
use Rattle.std.proofs.lemmas.List.{length-map}
use Rattle.std.specs.Float.{binary64}
use Rattle.std.specs.Float.Ieee.{to_bits}
use Rattle.std.specs.Float.Ieee.Bits.{of_bits-to_bits, to_bits-lt}
use Rattle.floats.specs.Num.{0f}
use Rattle.model_file.specs.declared.Variable.{Variable}
use Rattle.model_file.specs.declared.Term.{Term}
use Rattle.model_file.specs.declared.RowHead.{RowHead}
use Rattle.model_file.specs.declared.Settings.{Settings}
use Rattle.model_file.specs.Format.{got, Parser, byte, number, float, optional, count, code, rules, settings, absent_upper, values, variable, side, head}
use Rattle.model_file.specs.Format.{term, many, row, Row, rows, ends, all_terms, Lists, lists, end, whole, file, decoded, decode}
use Rattle.model_file.specs.Places.{then_got, refuse_no, optional_present}
use Rattle.model_file.specs.Encode.{bytes_of, float_bytes, each, variable_bytes, term_bytes, row_bytes, variables_of, terms_of}
use Rattle.model_file.specs.Encode.{rows_of, encode, Every, Binary64, Code, Short, Rising, Starts, WellFormed}
use Rattle.model_file.specs.RoundTrip.{RowOk, RowsAre, RowsOk, SheetOk, TermOk, TermsAre, VariableOk, VariablesAre}

-- ---- numbers and floats
pub number_back : (n v : ℕ) (s : List ℕ) → v < 256 ^ n → number n (bytes_of n v ++ s) ≡ got v s
unfolding number bytes_of byte
number_back zero v s h = ap (λ (k : ℕ). got k s) (omega arith)
number_back (suc n) v s h =
    let z : v % 256 + 256 * (v / 256) ≡ v = omega arith in
    then_got _ refl ∙ then_got _ (number_back n (v / 256) s (omega arith)) ∙ ap (λ (k : ℕ). got k s) z

pub float_back : (x : Float) (s : List ℕ) → Binary64 x → float (float_bytes x ++ s) ≡ got x s
unfolding float float_bytes
float_back x s h = then_got _ (number_back 8 (to_bits binary64 x) s (to_bits-lt binary64 x h)) ∙ ap (λ (y : Float). got y s) (of_bits-to_bits binary64 x h)

pub optional_back : {b : Bool} (d x : Float) (s : List ℕ) → b ≡ true → Binary64 x → optional b d (float_bytes x ++ s) ≡ got x s
optional_back d x s e h = optional_present d (float_bytes x ++ s) e ∙ float_back x s h

pub byte_back : (b : ℕ) (s : List ℕ) → byte (b ∷ s) ≡ got b s
unfolding byte
byte_back b s = refl

pub variable_bytes_lem : (v : Variable) (s : List ℕ) → variable_bytes v ++ s ≡ (7 + 8 * v.domain) ∷ (float_bytes v.objective ++ (float_bytes v.lower ++ (float_bytes v.upper ++ s)))
unfolding variable_bytes
variable_bytes_lem v s = ap (λ (l : List ℕ). (7 + 8 * v.domain) ∷ l) (append_assoc (float_bytes v.objective) (float_bytes v.lower ++ float_bytes v.upper) s
    ∙ ap (λ (l : List ℕ). float_bytes v.objective ++ l) (append_assoc (float_bytes v.lower) (float_bytes v.upper) s))

pub variable_back : (v : Variable) (s : List ℕ) → VariableOk v → variable (variable_bytes v ++ s) ≡ got v s
unfolding variable values
variable_back v s k =
    let m = 7 + 8 * v.domain in
    let z : m / 8 % 4 ≡ v.domain = omega (arith, k.domain) in
    ap variable (variable_bytes_lem v s)
    ∙ then_got _ (byte_back m _)
    ∙ then_got _ (refuse_no 12 _ (le-ltb 31 m (omega (arith, k.domain))))
    ∙ then_got _ (refuse_no 12 _ (le-ltb 2 (m / 8 % 4) (omega (arith, k.domain))))
    ∙ then_got _ (optional_back 0f v.objective _ (eq-eqb (m / 1 % 2) 1 (omega arith)) k.objective)
    ∙ then_got _ (optional_back 0f v.lower _ (eq-eqb (m / 2 % 2) 1 (omega arith)) k.lower)
    ∙ then_got _ (optional_back (absent_upper (m / 8 % 4)) v.upper s (eq-eqb (m / 4 % 2) 1 (omega arith)) k.upper)
    ∙ ap (λ (d : ℕ). got (record { objective = v.objective; lower = v.lower; upper = v.upper; domain = d }) s) z

-- ---- many
pub many_back : {A : Type 0} (p : Parser A) (f : A → List ℕ) (P : A → Type 0) → ((x : A) (s : List ℕ) → P x → p (f x ++ s) ≡ got x s) → (xs : List A) (s : List ℕ)
    → Every P xs → many p (length xs) (each f xs ++ s) ≡ got xs s
unfolding many each
many_back p f P h [] s k = refl
many_back p f P h (x ∷ xs) s k =
    ap (many p (suc (length xs))) (append_assoc (f x) (each f xs) s)
    ∙ then_got _ (h x (each f xs ++ s) k.0)
    ∙ then_got _ (many_back p f P h xs s k.1)

pub term_back : (x : Term) (s : List ℕ) → TermOk x → term (term_bytes x ++ s) ≡ got x s
unfolding term term_bytes
term_back x s k =
    ap term (append_assoc (bytes_of 2 x.index) (float_bytes x.coeff) s)
    ∙ then_got _ (number_back 2 x.index (float_bytes x.coeff ++ s) k.index)
    ∙ then_got _ (float_back x.coeff s k.coeff)

pub row_bytes_lem : (r : Row) (s : List ℕ) → row_bytes r ++ s ≡ (4 + r.head.cmp) ∷ (float_bytes r.head.rhs ++ (bytes_of 2 r.head.count ++ (each term_bytes r.terms ++ s)))
unfolding row_bytes
row_bytes_lem r s = ap (λ (l : List ℕ). (4 + r.head.cmp) ∷ l) (append_assoc (float_bytes r.head.rhs) (bytes_of 2 r.head.count ++ each term_bytes r.terms)
    s ∙ ap (λ (l : List ℕ). float_bytes r.head.rhs ++ l) (append_assoc (bytes_of 2 r.head.count) (each term_bytes r.terms) s))

pub head_back : (t : ℕ) (h : RowHead) (s : List ℕ) → Code h.cmp → Binary64 h.rhs → t + h.count ≤ 512 → head t ((4 + h.cmp) ∷ (float_bytes h.rhs ++ (bytes_of 2 h.count ++ s))) ≡ got h s
unfolding head side
head_back t h s q b u =
    let m = 4 + h.cmp in
    let y : m / 4 ≡ 1 = omega arith in
    let z : m % 4 ≡ h.cmp = omega arith in
    then_got _ (byte_back m _)
    ∙ then_got _ (refuse_no 12 _ (le-ltb 7 m (omega arith)))
    ∙ then_got _ (refuse_no 12 _ (le-ltb 2 (m % 4) (omega arith)))
    ∙ then_got _ (optional_back 0f h.rhs _ (eq-eqb (m / 4 % 2) 1 (ap (λ (n : ℕ). n % 2) y)) b)
    ∙ then_got _ (number_back 2 h.count s (omega arith))
    ∙ then_got _ (refuse_no 14 _ (le-ltb 512 (t + h.count) u))
    ∙ ap (λ (d : ℕ). got (record { cmp = d; rhs = h.rhs; count = h.count }) s) z

pub row_back : (t : ℕ) (r : Row) (s : List ℕ) → RowOk t r → row t (row_bytes r ++ s) ≡ got r s
unfolding row
row_back t r s k =
    ap (row t) (row_bytes_lem r s)
    ∙ then_got _ (head_back t r.head (each term_bytes r.terms ++ s) k.cmp k.rhs k.upto)
    ∙ then_got _ (ap (λ (n : ℕ). many term n (each term_bytes r.terms ++ s)) (sym k.count) ∙ many_back term term_bytes TermOk term_back r.terms s k.terms)

pub rows_back : (t : ℕ) (rs : List Row) (s : List ℕ) → RowsOk t rs → rows (length rs) t (each row_bytes rs ++ s) ≡ got rs s
unfolding rows each
rows_back t [] s k = refl
rows_back t (r ∷ rs) s k =
    ap (rows (suc (length rs)) t) (append_assoc (row_bytes r) (each row_bytes rs) s)
    ∙ then_got _ (row_back t r (each row_bytes rs ++ s) k.0)
    ∙ then_got _ (rows_back (t + r.head.count) rs s k.1)

pub count_back : (n : ℕ) (s : List ℕ) → n ≤ 128 → count (bytes_of 2 n ++ s) ≡ got n s
unfolding count
count_back n s h = then_got _ (number_back 2 n s (omega arith)) ∙ then_got _ (refuse_no 14 s (le-ltb 128 n h))

pub code_back : (n : ℕ) (s : List ℕ) → Code n → code (n ∷ s) ≡ got n s
unfolding code
code_back n s h = then_got _ (byte_back n s) ∙ then_got _ (refuse_no 12 s (le-ltb 2 n (omega arith)))

pub settings_back : (h : Settings) (s : List ℕ) → h.vars ≤ 128 → h.rows ≤ 128 → Binary64 h.feasibility → Binary64 h.int_tol → Code h.mode
    → settings (bytes_of 2 h.vars ++ (bytes_of 2 h.rows ++ (float_bytes h.feasibility ++ (float_bytes h.int_tol ++ (h.mode ∷ s))))) ≡ got h s
unfolding settings rules
settings_back h s v r f i m =
    then_got _ (count_back h.vars _ v)
    ∙ then_got _ (count_back h.rows _ r)
    ∙ then_got _ (float_back h.feasibility _ f)
    ∙ then_got _ (float_back h.int_tol _ i)
    ∙ then_got _ (code_back h.mode s m)

pub sheet_back : (h : Settings) (vs : List Variable) (rs : List Row) → SheetOk h vs rs
    → decode (bytes_of 2 h.vars
    ++ (bytes_of 2 h.rows ++ (float_bytes h.feasibility ++ (float_bytes h.int_tol ++ (h.mode ∷ (each variable_bytes vs ++ each row_bytes rs))))))
    ≡ file (lists h vs rs)
unfolding decode decoded whole end
sheet_back h vs rs k =
    ap decoded
    (then_got _ (settings_back h (each variable_bytes vs ++ each row_bytes rs) k.few_vars k.few_rows k.feasibility k.int_tol k.mode)
    ∙ then_got _ (ap (λ (n : ℕ). many variable n (each variable_bytes vs ++ each row_bytes rs)) (sym k.vars)
    ∙ many_back variable variable_bytes VariableOk variable_back vs (each row_bytes rs) k.variables)
    ∙ then_got _ (ap (λ (n : ℕ). rows n 0 (each row_bytes rs)) (sym k.row_count) ∙ ap (rows (length rs) 0) (sym (append-nil (each row_bytes rs))) ∙ rows_back 0 rs [] k.rows_ok)
    ∙ then_got _ refl)

-- a list with no entry
pub none : {A : Type 0} (l : List A) → length l ≡ 0 → [] ≡ l
none [] e = refl
none (x ∷ l) e = absurd (omega arith)

pub variables_are : (os ls us : List Float) (ds : List ℕ) → length ls ≡ length os → length us ≡ length os → length ds ≡ length os → Every Binary64 os → Every Binary64 ls
    → Every Binary64 us → Every Code ds → VariablesAre os ls us ds (variables_of os ls us ds)
unfolding variables_of
variables_are [] ls us ds a b c o l u d = record { objective = refl; lower = none ls a; upper = none us b; domain = none ds c; ok = tt }
variables_are (x ∷ os) [] us ds a b c o l u d = absurd (omega arith)
variables_are (x ∷ os) (y ∷ ls) [] ds a b c o l u d = absurd (omega arith)
variables_are (x ∷ os) (y ∷ ls) (z ∷ us) [] a b c o l u d = absurd (omega arith)
variables_are (x ∷ os) (y ∷ ls) (z ∷ us) (w ∷ ds) a b c o l u d =
    let k = variables_are os ls us ds (omega arith) (omega arith) (omega arith) o.1 l.1 u.1 d.1 in
    record {
      objective = ap (λ (r : List Float). x ∷ r) k.objective;
      lower = ap (λ (r : List Float). y ∷ r) k.lower;
      upper = ap (λ (r : List Float). z ∷ r) k.upper;
      domain = ap (λ (r : List ℕ). w ∷ r) k.domain;
      ok = (record { objective = o.0; lower = l.0; upper = u.0; domain = d.0 }, k.ok);
    }

pub terms_are : (is : List ℕ) (cs : List Float) → length cs ≡ length is → Every Short is → Every Binary64 cs → TermsAre is cs (terms_of is cs)
unfolding terms_of
terms_are [] cs a i c = record { index = refl; coeff = none cs a; count = refl; ok = tt }
terms_are (x ∷ is) [] a i c = absurd (omega arith)
terms_are (x ∷ is) (y ∷ cs) a i c =
    let k = terms_are is cs (omega arith) i.1 c.1 in
    record {
      index = ap (λ (r : List ℕ). x ∷ r) k.index;
      coeff = ap (λ (r : List Float). y ∷ r) k.coeff;
      count = ap suc k.count;
      ok = (record { index = i.0; coeff = c.0 }, k.ok);
    }

pub every_take : {A : Type 0} (P : A → Type 0) (n : ℕ) (l : List A) → Every P l → Every P (take n l)
every_take P zero l k = tt
every_take P (suc n) [] k = tt
every_take P (suc n) (x ∷ l) k = (k.0, every_take P n l k.1)

pub every_drop : {A : Type 0} (P : A → Type 0) (n : ℕ) (l : List A) → Every P l → Every P (drop n l)
every_drop P zero l k = k
every_drop P (suc n) [] k = tt
every_drop P (suc n) (x ∷ l) k = every_drop P n l k.1

pub rising_le : (t : ℕ) (es : List ℕ) (n : ℕ) → Rising t es n → t ≤ n
rising_le t [] n r = omega arith
rising_le t (e ∷ es) n r = let z = rising_le e es n r.1 in omega (arith, z, r.0)

pub rows_are_lem : (t n : ℕ) (es : List ℕ) (ts : List Term) (qs : List ℕ) (bs : List Float) → n ≤ 512 → Rising t es n → t + length ts ≡ n → length qs ≡ length es
    → length bs ≡ length es → Every TermOk ts → Every Code qs → Every Binary64 bs → RowsAre t es ts qs bs (rows_of t es ts qs bs)
unfolding rows_of ends all_terms
rows_are_lem t n [] ts qs bs h r e a b x q s = record { starts = refl; terms = none ts (omega arith); cmp = none qs a; rhs = none bs b; ok = tt }
rows_are_lem t n (d ∷ es) ts [] bs h r e a b x q s = absurd (omega arith)
rows_are_lem t n (d ∷ es) ts (y ∷ qs) [] h r e a b x q s = absurd (omega arith)
rows_are_lem t n (d ∷ es) ts (y ∷ qs) (z ∷ bs) h r e a b x q s =
    let m = d - t in
    let i : t + m ≡ d = omega (arith, r.0) in
    let j : d ≤ n = rising_le d es n r.1 in
    let v : length (take m ts) ≡ m = omega (arith, length-take m ts, j, e) in
    let w : d + length (drop m ts) ≡ n = omega (arith, length-drop m ts, j, e) in
    let rs = rows_of d es (drop m ts) qs bs in
    let k = rows_are_lem d n es (drop m ts) qs bs h r.1 w (omega arith) (omega arith) (every_drop TermOk m ts x) q.1 s.1 in
    record {
      starts = ap (λ (k : ℕ). k ∷ ends k rs) i ∙ ap (λ (l : List ℕ). d ∷ l) k.starts;
      terms = ap (λ (l : List Term). take m ts ++ l) k.terms ∙ take-append-drop m ts;
      cmp = ap (λ (l : List ℕ). y ∷ l) k.cmp;
      rhs = ap (λ (l : List Float). z ∷ l) k.rhs;
      ok = (record { cmp = q.0; rhs = s.0; count = v; upto = omega (arith, i, j, h); terms = every_take TermOk m ts x }, subst (λ (k : ℕ). RowsOk k rs) (sym i) k.ok);
    }

-- ---- the round trip
pub starts_are : (ps : List ℕ) (n : ℕ) → Starts ps n → 0 ∷ drop 1 ps ≡ ps
starts_are [] n s = absurd s
starts_are (p ∷ ps) n s = ap (λ (k : ℕ). k ∷ ps) (sym s.0)

pub starts_rise : (ps : List ℕ) (n : ℕ) → Starts ps n → Rising 0 (drop 1 ps) n
starts_rise [] n s = absurd s
starts_rise (p ∷ ps) n s = s.1

pub map_length : {A B : Type 0} (f : A → B) (xs : List A) (ys : List B) → map f xs ≡ ys → length xs ≡ length ys
map_length f xs ys e = sym (length-map xs f) ∙ ap length e

pub round_trip : (f : Lists) → WellFormed f → decode (encode f) ≡ file f
unfolding encode lists
round_trip f w =
    let n = length f.index in
    let vs = variables_of f.objective f.lower f.upper f.domain in
    let ts = terms_of f.index f.coeff in
    let rs = rows_of 0 (drop 1 f.starts) ts f.cmp f.rhs in
    let v = variables_are f.objective f.lower f.upper f.domain w.lowers w.uppers w.domains w.objective_held w.lower_held w.upper_held w.domain_code in
    let t = terms_are f.index f.coeff w.coeffs w.index_short w.coeff_held in
    let e : length (drop 1 f.starts) ≡ length f.cmp = omega (arith, length-drop 1 f.starts, w.starts) in
    let r = rows_are_lem 0 n (drop 1 f.starts) ts f.cmp f.rhs w.terms (starts_rise f.starts n w.rising) (omega (arith, t.count)) (sym e)
    (w.sides ∙ sym e) t.ok w.cmp_code w.rhs_held in
    let h : Settings = record { vars = length f.objective; rows = length f.cmp; feasibility = f.feasibility; int_tol = f.int_tol; mode = f.mode } in
    let k : SheetOk h vs rs =
    record {
      vars = map_length (λ (v : Variable). v.objective) vs f.objective v.objective;
      few_vars = w.vars;
      row_count = map_length (λ (r : Row). r.head.cmp) rs f.cmp r.cmp;
      few_rows = w.rows;
      feasibility = w.feasibility_held;
      int_tol = w.int_tol_held;
      mode = w.mode_code;
      variables = v.ok;
      rows_ok = r.ok;
    } in
    sheet_back h vs rs k
    ∙ (λ j. file (record {
      objective = v.objective j;
      lower = v.lower j;
      upper = v.upper j;
      domain = v.domain j;
      starts = (ap (λ (l : List ℕ). 0 ∷ l) r.starts ∙ starts_are f.starts n w.rising) j;
      index = (ap (map (λ (x : Term). x.index)) r.terms ∙ t.index) j;
      coeff = (ap (map (λ (x : Term). x.coeff)) r.terms ∙ t.coeff) j;
      cmp = r.cmp j;
      rhs = r.rhs j;
      mode = f.mode;
      feasibility = f.feasibility;
      int_tol = f.int_tol;
    }))
