-- What a read finds in a block or a strand, and what a store leaves of every block and strand: one law each, by induction, and its instances.
use Rattle.std.specs.Prelude.{◌≡◌, ℕ, zero, suc, ◌+◌, ◌*◌, ◌<◌, ◌≤◌, ◌≢◌, List, [], ◌∷◌, length, get_or, drop, slice_index, slice_index_or, slice_set, Float}
use Rattle.std.proofs.Math.Path.{refl, ap, sym}
use Rattle.std.proofs.Common.{◌∙◌, get_or-take, get_or-drop}
use native.Mathlib.Omega.{arith}
use Rattle.std.proofs.Math.ListN.{length-take, length-drop}
use Rattle.std.proofs.Math.Seq.{get_or-set_same, get_or-set_other, drop-set-add, drop-set-lt, take-set-le, take-set-lt}
use Rattle.std.specs.Float.Ieee.{nan}
use Rattle.space.specs.declared.Context.{Context}
use Rattle.space.specs.Store.{blocks, start, nth, size, strand, strands_from, strands, put_in, fsizes, nsizes, to_floats, to_numbers, var_strands, row_strands}
use Rattle.space.specs.Store.{mark_strands, alive_strands, floats_in, numbers_in, floats_of, numbers_of, HoldsF, HoldsN, put_wlo, put_whi, put_elo, put_ehi}
use Rattle.space.specs.Store.{put_lo, put_hi, put_fold_scale, put_shift, put_written, put_rewritten, put_kept, put_bound, put_coeffs, put_queued}
use Rattle.space.specs.Store.{put_dropped, put_tightened, put_fixed, put_rewrote, put_passes, put_dirty, put_coeff_dirty, put_queue, put_wave, put_len}
use Rattle.space.specs.Store.{put_folded, put_alive, put_touched, put_binaries, put_fate, put_slot, put_bad_dec, put_bad_inc, put_vars, put_binary}

-- all blocks together
unfoldable pub total : List ℕ → ℕ
total [] = 0
total (n ∷ ns) = n + total ns

-- place k of the first w elements, and of those after them
first_place : (w k : ℕ) → w * 0 + k ≡ k
first_place w k = omega arith

next_place : (w i k : ℕ) → w * suc i + k ≡ w + (w * i + k)
next_place w i k = omega arith

module _ {A : Type 0} where
  pub read : (k : ℕ) (ns : List ℕ) (l : List A) (i : ℕ) (d : A) → i < size k ns → slice_index_or l (start k ns + i) d ≡ slice_index_or (nth k (blocks ns l)) i d
  unfolding blocks start nth size
  read k [] l i d h = absurd (omega arith)
  read zero (n ∷ ns) l i d h = let z : 0 + i ≡ i = omega arith in ap (λ (p : ℕ). get_or l p d) z ∙ sym (get_or-take n l i d h)
  read (suc k) (n ∷ ns) l i d h =
      let z : n + start k ns + i ≡ n + (start k ns + i) = omega arith in
      ap (λ (p : ℕ). get_or l p d) z ∙ sym (get_or-drop n l (start k ns + i) d) ∙ read k ns (drop n l) i d h

  pub store : (k : ℕ) (ns : List ℕ) (l : List A) (i : ℕ) (x : A) → i < size k ns → blocks ns (slice_set l (start k ns + i) x) ≡ put_in k i x (blocks ns l)
  unfolding blocks start put_in size
  store k [] l i x h = absurd (omega arith)
  store zero (n ∷ ns) l i x h = let z : 0 + i ≡ i = omega arith in rw (z, take-set-lt n l i x h, drop-set-lt n l i x h)
  store (suc k) (n ∷ ns) l i x h =
      let z : n + start k ns + i ≡ n + (start k ns + i) = omega arith in
      rw (z, take-set-le n l (n + (start k ns + i)) x (omega arith), drop-set-add n l (start k ns + i) x, store k ns (drop n l) i x h)

  -- a block is as long as its size, where the slice is long enough
  pub block_length : (k : ℕ) (ns : List ℕ) (l : List A) → total ns ≤ length l → length (nth k (blocks ns l)) ≡ size k ns
  unfolding blocks nth size total
  block_length k [] l h = refl
  block_length zero (n ∷ ns) l h = simp length-take (omega arith)
  block_length (suc k) (n ∷ ns) l h = block_length k ns (drop n l) (simp length-drop (omega arith))

  -- a strand has n elements, and its element i stands at place w * i + k of the block
  strand_length : (d : A) (w k n : ℕ) (l : List A) → length (strand d w k n l) ≡ n
  unfolding strand
  strand_length d w k zero l = refl
  strand_length d w k (suc n) l = ap suc (strand_length d w k n (drop w l))

  strand_at : (d : A) (w k n : ℕ) (l : List A) (i : ℕ) → i < n → slice_index_or l (w * i + k) d ≡ slice_index_or (strand d w k n l) i d
  unfolding strand
  strand_at d w k zero l i h = absurd (omega arith)
  strand_at d w k (suc n) l zero h = ap (λ (p : ℕ). get_or l p d) (first_place w k)
  strand_at d w k (suc n) l (suc i) h =
      ap (λ (p : ℕ). get_or l p d) (next_place w i k) ∙ sym (get_or-drop w l (w * i + k) d) ∙ strand_at d w k n (drop w l) i (omega arith)

  -- a store there sets element i of strand k, and leaves every other strand j as it was
  strand_put : (d : A) (w k n : ℕ) (l : List A) (i : ℕ) (x : A) → k < w → i < n → w * i + k < length l → strand d w k n (slice_set l (w * i + k) x) ≡ slice_set (strand d w k n l) i x
  unfolding strand
  strand_put d w k zero l i x hk hi hl = absurd (omega arith)
  strand_put d w k (suc n) l zero x hk hi hl =
      rw (first_place w k, get_or-set_same l k x d (omega arith), drop-set-lt w l k x hk)
  strand_put d w k (suc n) l (suc i) x hk hi hl =
      let room : w * i + k < length (drop w l) = simp length-drop (omega arith) in
      rw (next_place w i k, get_or-set_other l (w + (w * i + k)) k x d (omega arith), drop-set-add w l (w * i + k) x, strand_put d w k n (drop w l) i x hk (omega arith) room)

  strand_kept : (d : A) (w j k n : ℕ) (l : List A) (i : ℕ) (x : A) → j < w → k < w → j ≢ k → strand d w j n (slice_set l (w * i + k) x) ≡ strand d w j n l
  unfolding strand
  strand_kept d w j k zero l i x hj hk hn = refl
  strand_kept d w j k (suc n) l zero x hj hk hn =
      rw (first_place w k, get_or-set_other l k j x d hn, drop-set-lt w l k x hk)
  strand_kept d w j k (suc n) l (suc i) x hj hk hn =
      rw (next_place w i k, get_or-set_other l (w + (w * i + k)) j x d (omega arith), drop-set-add w l (w * i + k) x, strand_kept d w j k n (drop w l) i x hj hk hn)

  -- so of the strands from j on: a store to a strand k before them leaves all, and one to their k-th sets its element
  from_kept : (d : A) (w j m n : ℕ) (l : List A) (i : ℕ) (x : A) (k : ℕ) → k < j → j + m ≤ w → strands_from d w j m n (slice_set l (w * i + k) x) ≡ strands_from d w j m n l
  unfolding strands_from
  from_kept d w j zero n l i x k hk hw = refl
  from_kept d w j (suc m) n l i x k hk hw =
      rw (strand_kept d w j k n l i x (omega arith) (omega arith) (omega arith), from_kept d w (suc j) m n l i x k (omega arith) (omega arith))

  from_put : (d : A) (w j m n : ℕ) (l : List A) (i : ℕ) (x : A) (k : ℕ) → k < m → j + m ≤ w → i < n → w * i + (j + k) < length l
      → strands_from d w j m n (slice_set l (w * i + (j + k)) x) ≡ put_in k i x (strands_from d w j m n l)
  unfolding strands_from put_in
  from_put d w j zero n l i x k hk hw hi hl = absurd (omega arith)
  from_put d w j (suc m) n l i x zero hk hw hi hl =
      let z : j + 0 ≡ j = omega arith in
      rw (z, strand_put d w j n l i x (omega arith) hi (omega arith), from_kept d w (suc j) m n l i x j (omega arith) (omega arith))
  from_put d w j (suc m) n l i x (suc k) hk hw hi hl =
      let z : j + suc k ≡ suc j + k = omega arith in
      rw (z, strand_kept d w j (suc j + k) n l i x (omega arith) (omega arith) (omega arith), from_put d w (suc j) m n l i x k (omega arith) (omega arith) hi (omega arith))

  -- and of all strands
  strands_put : (d : A) (w n : ℕ) (l : List A) (i : ℕ) (x : A) (k : ℕ) → k < w → i < n → w * i + k < length l → strands d w n (slice_set l (w * i + k) x) ≡ put_in k i x (strands d w n l)
  unfolding strands
  strands_put d w n l i x k hk hi hl =
      let z : w * i + k ≡ w * i + (0 + k) = omega arith in
      ap (λ (p : ℕ). strands d w n (slice_set l p x)) z ∙ from_put d w 0 w n l i x k hk (omega arith) hi (omega arith)

  -- block g after a store to it
  nth_put : (g p : ℕ) (x : A) (b : List (List A)) → nth g (put_in g p x b) ≡ slice_set (nth g b) p x
  unfolding nth put_in
  nth_put g p x [] = refl
  nth_put zero p x (c ∷ b) = refl
  nth_put (suc g) p x (c ∷ b) = nth_put g p x b

  -- block g has w strands of n elements, and p is the place of element i of strand k
  module _ (g : ℕ) (ns : List ℕ) (l : List A) (d : A) (w n k i p : ℕ) (e : p ≡ start g ns + (w * i + k)) (room : w * i + k < size g ns) (h : i < n) where
    read_strand : get_or l p d ≡ slice_index_or (strand d w k n (nth g (blocks ns l))) i d
    read_strand = ap (λ (q : ℕ). get_or l q d) e ∙ read g ns l (w * i + k) d room ∙ strand_at d w k n (nth g (blocks ns l)) i h

    -- F is made of the strands and of the other blocks: it is the same whatever stands in block g
    store_strand : {B : Type 0} (F : List (List A) → List (List A) → B)
        → ((v : List (List A)) (q : ℕ) (x : A) → F v (put_in g q x (blocks ns l)) ≡ F v (blocks ns l)) → (x : A) → k < w → total ns ≤ length l
        → F (strands d w n (nth g (blocks ns (slice_set l p x)))) (blocks ns (slice_set l p x)) ≡ F (put_in k i x (strands d w n (nth g (blocks ns l)))) (blocks ns l)
    store_strand F same x hk hl =
        let after : blocks ns (slice_set l p x) ≡ put_in g (w * i + k) x (blocks ns l) = ap (λ (q : ℕ). blocks ns (slice_set l q x)) e ∙ store g ns l (w * i + k) x room in
        let fits : w * i + k < length (nth g (blocks ns l)) = omega (arith, block_length g ns l hl) in
        rw (after, nth_put g (w * i + k) x (blocks ns l), same, strands_put d w n (nth g (blocks ns l)) i x k hk h fits)

module _ (s : Context) (l : List Float) (i : ℕ) where
  -- a store to number k of variable i, and of row i
  variable_put : (k p : ℕ) (x : Float) → p ≡ 4 * i + k → k < 4 → i < s.vars → HoldsF s l → floats_of s (slice_set l p x)
      ≡ to_floats (put_in k i x (var_strands s (blocks (fsizes s) l))) (row_strands s (blocks (fsizes s) l)) (blocks (fsizes s) l)
  unfolding floats_of floats_in to_floats fsizes blocks start nth size put_in total
  variable_put k p x e hk h hl =
      store_strand 0 (fsizes s) l nan 4 s.vars k i p (omega arith) (omega arith) h (λ (v b : List (List Float)). to_floats v (row_strands s b) b) (λ v q y. refl) x hk (omega arith)

  row_put : (k p : ℕ) (x : Float) → p ≡ 4 * s.vars + 4 * i + k → k < 4 → i < s.rows → HoldsF s l → floats_of s (slice_set l p x)
      ≡ to_floats (var_strands s (blocks (fsizes s) l)) (put_in k i x (row_strands s (blocks (fsizes s) l))) (blocks (fsizes s) l)
  unfolding floats_of floats_in to_floats fsizes blocks start nth size put_in total
  row_put k p x e hk h hl =
      store_strand 1 (fsizes s) l nan 4 s.rows k i p (omega arith) (omega arith) h (λ (r b : List (List Float)). to_floats (var_strands s b) r b) (λ r q y. refl) x hk (omega arith)

  pub wlo_at : i < s.vars → slice_index_or l (4 * i) nan ≡ slice_index_or (floats_of s l).wlo i nan
  unfolding floats_of floats_in to_floats fsizes strands_from strands start nth size
  wlo_at h = read_strand 0 (fsizes s) l nan 4 s.vars 0 i (4 * i) (omega arith) (omega arith) h

  pub wlo_put : (x : Float) → i < s.vars → HoldsF s l → floats_of s (slice_set l (4 * i) x) ≡ put_wlo i x (floats_of s l)
  unfolding floats_of floats_in to_floats strands_from strands nth put_in
  wlo_put x h hl = variable_put 0 (4 * i) x (omega arith) (omega arith) h hl

  pub whi_at : i < s.vars → slice_index_or l (4 * i + 1) nan ≡ slice_index_or (floats_of s l).whi i nan
  unfolding floats_of floats_in to_floats fsizes strands_from strands start nth size
  whi_at h = read_strand 0 (fsizes s) l nan 4 s.vars 1 i (4 * i + 1) (omega arith) (omega arith) h

  pub whi_put : (x : Float) → i < s.vars → HoldsF s l → floats_of s (slice_set l (4 * i + 1) x) ≡ put_whi i x (floats_of s l)
  unfolding floats_of floats_in to_floats strands_from strands nth put_in
  whi_put x h hl = variable_put 1 (4 * i + 1) x (omega arith) (omega arith) h hl

  pub elo_at : i < s.vars → slice_index_or l (4 * i + 2) nan ≡ slice_index_or (floats_of s l).elo i nan
  unfolding floats_of floats_in to_floats fsizes strands_from strands start nth size
  elo_at h = read_strand 0 (fsizes s) l nan 4 s.vars 2 i (4 * i + 2) (omega arith) (omega arith) h

  pub elo_put : (x : Float) → i < s.vars → HoldsF s l → floats_of s (slice_set l (4 * i + 2) x) ≡ put_elo i x (floats_of s l)
  unfolding floats_of floats_in to_floats strands_from strands nth put_in
  elo_put x h hl = variable_put 2 (4 * i + 2) x (omega arith) (omega arith) h hl

  pub ehi_at : i < s.vars → slice_index_or l (4 * i + 3) nan ≡ slice_index_or (floats_of s l).ehi i nan
  unfolding floats_of floats_in to_floats fsizes strands_from strands start nth size
  ehi_at h = read_strand 0 (fsizes s) l nan 4 s.vars 3 i (4 * i + 3) (omega arith) (omega arith) h

  pub ehi_put : (x : Float) → i < s.vars → HoldsF s l → floats_of s (slice_set l (4 * i + 3) x) ≡ put_ehi i x (floats_of s l)
  unfolding floats_of floats_in to_floats strands_from strands nth put_in
  ehi_put x h hl = variable_put 3 (4 * i + 3) x (omega arith) (omega arith) h hl

  pub lo_at : i < s.rows → slice_index_or l (4 * s.vars + 4 * i) nan ≡ slice_index_or (floats_of s l).lo i nan
  unfolding floats_of floats_in to_floats fsizes strands_from strands start nth size
  lo_at h = read_strand 1 (fsizes s) l nan 4 s.rows 0 i (4 * s.vars + 4 * i) (omega arith) (omega arith) h

  pub lo_put : (x : Float) → i < s.rows → HoldsF s l → floats_of s (slice_set l (4 * s.vars + 4 * i) x) ≡ put_lo i x (floats_of s l)
  unfolding floats_of floats_in to_floats strands_from strands nth put_in
  lo_put x h hl = row_put 0 (4 * s.vars + 4 * i) x (omega arith) (omega arith) h hl

  pub hi_at : i < s.rows → slice_index_or l (4 * s.vars + 4 * i + 1) nan ≡ slice_index_or (floats_of s l).hi i nan
  unfolding floats_of floats_in to_floats fsizes strands_from strands start nth size
  hi_at h = read_strand 1 (fsizes s) l nan 4 s.rows 1 i (4 * s.vars + 4 * i + 1) (omega arith) (omega arith) h

  pub hi_put : (x : Float) → i < s.rows → HoldsF s l → floats_of s (slice_set l (4 * s.vars + 4 * i + 1) x) ≡ put_hi i x (floats_of s l)
  unfolding floats_of floats_in to_floats strands_from strands nth put_in
  hi_put x h hl = row_put 1 (4 * s.vars + 4 * i + 1) x (omega arith) (omega arith) h hl

  pub fold_scale_at : i < s.rows → slice_index_or l (4 * s.vars + 4 * i + 2) nan ≡ slice_index_or (floats_of s l).fold_scale i nan
  unfolding floats_of floats_in to_floats fsizes strands_from strands start nth size
  fold_scale_at h = read_strand 1 (fsizes s) l nan 4 s.rows 2 i (4 * s.vars + 4 * i + 2) (omega arith) (omega arith) h

  pub fold_scale_put : (x : Float) → i < s.rows → HoldsF s l → floats_of s (slice_set l (4 * s.vars + 4 * i + 2) x) ≡ put_fold_scale i x (floats_of s l)
  unfolding floats_of floats_in to_floats strands_from strands nth put_in
  fold_scale_put x h hl = row_put 2 (4 * s.vars + 4 * i + 2) x (omega arith) (omega arith) h hl

  pub shift_at : i < s.rows → slice_index_or l (4 * s.vars + 4 * i + 3) nan ≡ slice_index_or (floats_of s l).shift i nan
  unfolding floats_of floats_in to_floats fsizes strands_from strands start nth size
  shift_at h = read_strand 1 (fsizes s) l nan 4 s.rows 3 i (4 * s.vars + 4 * i + 3) (omega arith) (omega arith) h

  pub shift_put : (x : Float) → i < s.rows → HoldsF s l → floats_of s (slice_set l (4 * s.vars + 4 * i + 3) x) ≡ put_shift i x (floats_of s l)
  unfolding floats_of floats_in to_floats strands_from strands nth put_in
  shift_put x h hl = row_put 3 (4 * s.vars + 4 * i + 3) x (omega arith) (omega arith) h hl

  pub written_at : i < s.rows → slice_index_or l (4 * s.vars + 4 * s.rows + i) nan ≡ slice_index_or (floats_of s l).written i nan
  unfolding floats_of floats_in to_floats fsizes blocks start nth size
  written_at h =
      let e : 4 * s.vars + 4 * s.rows + i ≡ start 2 (fsizes s) + i = omega arith in
      ap (λ (p : ℕ). get_or l p nan) e ∙ read 2 (fsizes s) l i nan h

  pub written_put : (x : Float) → i < s.rows → floats_of s (slice_set l (4 * s.vars + 4 * s.rows + i) x) ≡ put_written i x (floats_of s l)
  unfolding floats_of floats_in to_floats fsizes blocks start nth size put_in
  written_put x h =
      let e : 4 * s.vars + 4 * s.rows + i ≡ start 2 (fsizes s) + i = omega arith in
      ap (λ (p : ℕ). floats_in s (blocks (fsizes s) (slice_set l p x))) e ∙ ap (floats_in s) (store 2 (fsizes s) l i x h)

  pub rewritten_at_lem : i < s.rows → slice_index_or l (4 * s.vars + 5 * s.rows + i) nan ≡ slice_index_or (floats_of s l).rewritten i nan
  unfolding floats_of floats_in to_floats fsizes blocks start nth size
  rewritten_at_lem h =
      let e : 4 * s.vars + 5 * s.rows + i ≡ start 3 (fsizes s) + i = omega arith in
      ap (λ (p : ℕ). get_or l p nan) e ∙ read 3 (fsizes s) l i nan h

  pub rewritten_put : (x : Float) → i < s.rows → floats_of s (slice_set l (4 * s.vars + 5 * s.rows + i) x) ≡ put_rewritten i x (floats_of s l)
  unfolding floats_of floats_in to_floats fsizes blocks start nth size put_in
  rewritten_put x h =
      let e : 4 * s.vars + 5 * s.rows + i ≡ start 3 (fsizes s) + i = omega arith in
      ap (λ (p : ℕ). floats_in s (blocks (fsizes s) (slice_set l p x))) e ∙ ap (floats_in s) (store 3 (fsizes s) l i x h)

  pub kept_at : i < s.rows → slice_index_or l (4 * s.vars + 6 * s.rows + i) nan ≡ slice_index_or (floats_of s l).kept i nan
  unfolding floats_of floats_in to_floats fsizes blocks start nth size
  kept_at h =
      let e : 4 * s.vars + 6 * s.rows + i ≡ start 4 (fsizes s) + i = omega arith in
      ap (λ (p : ℕ). get_or l p nan) e ∙ read 4 (fsizes s) l i nan h

  pub kept_put : (x : Float) → i < s.rows → floats_of s (slice_set l (4 * s.vars + 6 * s.rows + i) x) ≡ put_kept i x (floats_of s l)
  unfolding floats_of floats_in to_floats fsizes blocks start nth size put_in
  kept_put x h =
      let e : 4 * s.vars + 6 * s.rows + i ≡ start 4 (fsizes s) + i = omega arith in
      ap (λ (p : ℕ). floats_in s (blocks (fsizes s) (slice_set l p x))) e ∙ ap (floats_in s) (store 4 (fsizes s) l i x h)

  pub bound_at : i < s.rows → slice_index_or l (4 * s.vars + 7 * s.rows + i) nan ≡ slice_index_or (floats_of s l).bound i nan
  unfolding floats_of floats_in to_floats fsizes blocks start nth size
  bound_at h =
      let e : 4 * s.vars + 7 * s.rows + i ≡ start 5 (fsizes s) + i = omega arith in
      ap (λ (p : ℕ). get_or l p nan) e ∙ read 5 (fsizes s) l i nan h

  pub bound_put : (x : Float) → i < s.rows → floats_of s (slice_set l (4 * s.vars + 7 * s.rows + i) x) ≡ put_bound i x (floats_of s l)
  unfolding floats_of floats_in to_floats fsizes blocks start nth size put_in
  bound_put x h =
      let e : 4 * s.vars + 7 * s.rows + i ≡ start 5 (fsizes s) + i = omega arith in
      ap (λ (p : ℕ). floats_in s (blocks (fsizes s) (slice_set l p x))) e ∙ ap (floats_in s) (store 5 (fsizes s) l i x h)

  pub coeffs_at : i < s.terms → slice_index_or l (4 * s.vars + 8 * s.rows + i) nan ≡ slice_index_or (floats_of s l).coeffs i nan
  unfolding floats_of floats_in to_floats fsizes blocks start nth size
  coeffs_at h =
      let e : 4 * s.vars + 8 * s.rows + i ≡ start 6 (fsizes s) + i = omega arith in
      ap (λ (p : ℕ). get_or l p nan) e ∙ read 6 (fsizes s) l i nan h

  pub coeffs_put : (x : Float) → i < s.terms → floats_of s (slice_set l (4 * s.vars + 8 * s.rows + i) x) ≡ put_coeffs i x (floats_of s l)
  unfolding floats_of floats_in to_floats fsizes blocks start nth size put_in
  coeffs_put x h =
      let e : 4 * s.vars + 8 * s.rows + i ≡ start 6 (fsizes s) + i = omega arith in
      ap (λ (p : ℕ). floats_in s (blocks (fsizes s) (slice_set l p x))) e ∙ ap (floats_in s) (store 6 (fsizes s) l i x h)

module _ (s : Context) (l : List Float) (h : HoldsF s l) where
  pub wlo_length : length (floats_of s l).wlo ≡ s.vars
  unfolding floats_of floats_in to_floats strands_from strands nth
  wlo_length = strand_length nan 4 0 s.vars (nth 0 (blocks (fsizes s) l))

  pub whi_length : length (floats_of s l).whi ≡ s.vars
  unfolding floats_of floats_in to_floats strands_from strands nth
  whi_length = strand_length nan 4 1 s.vars (nth 0 (blocks (fsizes s) l))

  pub elo_length : length (floats_of s l).elo ≡ s.vars
  unfolding floats_of floats_in to_floats strands_from strands nth
  elo_length = strand_length nan 4 2 s.vars (nth 0 (blocks (fsizes s) l))

  pub ehi_length : length (floats_of s l).ehi ≡ s.vars
  unfolding floats_of floats_in to_floats strands_from strands nth
  ehi_length = strand_length nan 4 3 s.vars (nth 0 (blocks (fsizes s) l))

  pub lo_length : length (floats_of s l).lo ≡ s.rows
  unfolding floats_of floats_in to_floats strands_from strands nth
  lo_length = strand_length nan 4 0 s.rows (nth 1 (blocks (fsizes s) l))

  pub hi_length : length (floats_of s l).hi ≡ s.rows
  unfolding floats_of floats_in to_floats strands_from strands nth
  hi_length = strand_length nan 4 1 s.rows (nth 1 (blocks (fsizes s) l))

  pub fold_scale_length : length (floats_of s l).fold_scale ≡ s.rows
  unfolding floats_of floats_in to_floats strands_from strands nth
  fold_scale_length = strand_length nan 4 2 s.rows (nth 1 (blocks (fsizes s) l))

  pub shift_length : length (floats_of s l).shift ≡ s.rows
  unfolding floats_of floats_in to_floats strands_from strands nth
  shift_length = strand_length nan 4 3 s.rows (nth 1 (blocks (fsizes s) l))

  pub written_length : length (floats_of s l).written ≡ s.rows
  unfolding floats_of floats_in to_floats fsizes nth size total
  written_length = block_length 2 (fsizes s) l (omega arith)

  pub rewritten_length : length (floats_of s l).rewritten ≡ s.rows
  unfolding floats_of floats_in to_floats fsizes nth size total
  rewritten_length = block_length 3 (fsizes s) l (omega arith)

  pub kept_length : length (floats_of s l).kept ≡ s.rows
  unfolding floats_of floats_in to_floats fsizes nth size total
  kept_length = block_length 4 (fsizes s) l (omega arith)

  pub bound_length : length (floats_of s l).bound ≡ s.rows
  unfolding floats_of floats_in to_floats fsizes nth size total
  bound_length = block_length 5 (fsizes s) l (omega arith)

  pub coeffs_length : length (floats_of s l).coeffs ≡ s.terms
  unfolding floats_of floats_in to_floats fsizes nth size total
  coeffs_length = block_length 6 (fsizes s) l (omega arith)

module _ (s : Context) (l : List ℕ) (i : ℕ) where
  -- a store to mark k of row i, dirty or coeff_dirty, and to its len or alive
  mark_put : (k p x : ℕ) → p ≡ 6 + 2 * i + k → k < 2 → i < s.rows → HoldsN s l → numbers_of s (slice_set l p x)
      ≡ to_numbers (put_in k i x (mark_strands s (blocks (nsizes s) l))) (alive_strands s (blocks (nsizes s) l)) (blocks (nsizes s) l)
  unfolding numbers_of numbers_in to_numbers nsizes blocks start nth size put_in total
  mark_put k p x e hk h hl =
      store_strand 6 (nsizes s) l 0 2 s.rows k i p (omega arith) (omega arith) h (λ (m b : List (List ℕ)). to_numbers m (alive_strands s b) b) (λ m q y. refl) x hk (omega arith)

  len_or_alive_put : (k p x : ℕ) → p ≡ 6 + 4 * s.rows + 2 * i + k → k < 2 → i < s.rows → HoldsN s l → numbers_of s (slice_set l p x)
      ≡ to_numbers (mark_strands s (blocks (nsizes s) l)) (put_in k i x (alive_strands s (blocks (nsizes s) l))) (blocks (nsizes s) l)
  unfolding numbers_of numbers_in to_numbers nsizes blocks start nth size put_in total
  len_or_alive_put k p x e hk h hl =
      store_strand 9 (nsizes s) l 0 2 s.rows k i p (omega arith) (omega arith) h (λ (a b : List (List ℕ)). to_numbers (mark_strands s b) a b) (λ a q y. refl) x hk (omega arith)

  pub queued_at : i < 1 → slice_index l (0 + i) ≡ slice_index (numbers_of s l).queued i
  unfolding numbers_of numbers_in to_numbers nsizes blocks start nth size
  queued_at h =
      let e : 0 + i ≡ start 0 (nsizes s) + i = omega arith in
      ap (λ (p : ℕ). slice_index l p) e ∙ read 0 (nsizes s) l i 0 h

  pub queued_put : (x : ℕ) → i < 1 → numbers_of s (slice_set l (0 + i) x) ≡ put_queued i x (numbers_of s l)
  unfolding numbers_of numbers_in to_numbers nsizes blocks start nth size put_in
  queued_put x h =
      let e : 0 + i ≡ start 0 (nsizes s) + i = omega arith in
      ap (λ (p : ℕ). numbers_in s (blocks (nsizes s) (slice_set l p x))) e ∙ ap (numbers_in s) (store 0 (nsizes s) l i x h)

  pub dropped_at : i < 1 → slice_index l (1 + i) ≡ slice_index (numbers_of s l).dropped i
  unfolding numbers_of numbers_in to_numbers nsizes blocks start nth size
  dropped_at h =
      let e : 1 + i ≡ start 1 (nsizes s) + i = omega arith in
      ap (λ (p : ℕ). slice_index l p) e ∙ read 1 (nsizes s) l i 0 h

  pub dropped_put : (x : ℕ) → i < 1 → numbers_of s (slice_set l (1 + i) x) ≡ put_dropped i x (numbers_of s l)
  unfolding numbers_of numbers_in to_numbers nsizes blocks start nth size put_in
  dropped_put x h =
      let e : 1 + i ≡ start 1 (nsizes s) + i = omega arith in
      ap (λ (p : ℕ). numbers_in s (blocks (nsizes s) (slice_set l p x))) e ∙ ap (numbers_in s) (store 1 (nsizes s) l i x h)

  pub tightened_at : i < 1 → slice_index l (2 + i) ≡ slice_index (numbers_of s l).tightened i
  unfolding numbers_of numbers_in to_numbers nsizes blocks start nth size
  tightened_at h =
      let e : 2 + i ≡ start 2 (nsizes s) + i = omega arith in
      ap (λ (p : ℕ). slice_index l p) e ∙ read 2 (nsizes s) l i 0 h

  pub tightened_put : (x : ℕ) → i < 1 → numbers_of s (slice_set l (2 + i) x) ≡ put_tightened i x (numbers_of s l)
  unfolding numbers_of numbers_in to_numbers nsizes blocks start nth size put_in
  tightened_put x h =
      let e : 2 + i ≡ start 2 (nsizes s) + i = omega arith in
      ap (λ (p : ℕ). numbers_in s (blocks (nsizes s) (slice_set l p x))) e ∙ ap (numbers_in s) (store 2 (nsizes s) l i x h)

  pub fixed_at_lem : i < 1 → slice_index l (3 + i) ≡ slice_index (numbers_of s l).fixed i
  unfolding numbers_of numbers_in to_numbers nsizes blocks start nth size
  fixed_at_lem h =
      let e : 3 + i ≡ start 3 (nsizes s) + i = omega arith in
      ap (λ (p : ℕ). slice_index l p) e ∙ read 3 (nsizes s) l i 0 h

  pub fixed_put : (x : ℕ) → i < 1 → numbers_of s (slice_set l (3 + i) x) ≡ put_fixed i x (numbers_of s l)
  unfolding numbers_of numbers_in to_numbers nsizes blocks start nth size put_in
  fixed_put x h =
      let e : 3 + i ≡ start 3 (nsizes s) + i = omega arith in
      ap (λ (p : ℕ). numbers_in s (blocks (nsizes s) (slice_set l p x))) e ∙ ap (numbers_in s) (store 3 (nsizes s) l i x h)

  pub rewrote_at : i < 1 → slice_index l (4 + i) ≡ slice_index (numbers_of s l).rewrote i
  unfolding numbers_of numbers_in to_numbers nsizes blocks start nth size
  rewrote_at h =
      let e : 4 + i ≡ start 4 (nsizes s) + i = omega arith in
      ap (λ (p : ℕ). slice_index l p) e ∙ read 4 (nsizes s) l i 0 h

  pub rewrote_put : (x : ℕ) → i < 1 → numbers_of s (slice_set l (4 + i) x) ≡ put_rewrote i x (numbers_of s l)
  unfolding numbers_of numbers_in to_numbers nsizes blocks start nth size put_in
  rewrote_put x h =
      let e : 4 + i ≡ start 4 (nsizes s) + i = omega arith in
      ap (λ (p : ℕ). numbers_in s (blocks (nsizes s) (slice_set l p x))) e ∙ ap (numbers_in s) (store 4 (nsizes s) l i x h)

  pub passes_at : i < 1 → slice_index l (5 + i) ≡ slice_index (numbers_of s l).passes i
  unfolding numbers_of numbers_in to_numbers nsizes blocks start nth size
  passes_at h =
      let e : 5 + i ≡ start 5 (nsizes s) + i = omega arith in
      ap (λ (p : ℕ). slice_index l p) e ∙ read 5 (nsizes s) l i 0 h

  pub passes_put : (x : ℕ) → i < 1 → numbers_of s (slice_set l (5 + i) x) ≡ put_passes i x (numbers_of s l)
  unfolding numbers_of numbers_in to_numbers nsizes blocks start nth size put_in
  passes_put x h =
      let e : 5 + i ≡ start 5 (nsizes s) + i = omega arith in
      ap (λ (p : ℕ). numbers_in s (blocks (nsizes s) (slice_set l p x))) e ∙ ap (numbers_in s) (store 5 (nsizes s) l i x h)

  pub dirty_at : i < s.rows → slice_index l (6 + 2 * i) ≡ slice_index (numbers_of s l).dirty i
  unfolding numbers_of numbers_in to_numbers nsizes strands_from strands start nth size
  dirty_at h = read_strand 6 (nsizes s) l 0 2 s.rows 0 i (6 + 2 * i) (omega arith) (omega arith) h

  pub dirty_put : (x : ℕ) → i < s.rows → HoldsN s l → numbers_of s (slice_set l (6 + 2 * i) x) ≡ put_dirty i x (numbers_of s l)
  unfolding numbers_of numbers_in to_numbers strands_from strands nth put_in
  dirty_put x h hl = mark_put 0 (6 + 2 * i) x (omega arith) (omega arith) h hl

  pub coeff_dirty_at : i < s.rows → slice_index l (6 + 2 * i + 1) ≡ slice_index (numbers_of s l).coeff_dirty i
  unfolding numbers_of numbers_in to_numbers nsizes strands_from strands start nth size
  coeff_dirty_at h = read_strand 6 (nsizes s) l 0 2 s.rows 1 i (6 + 2 * i + 1) (omega arith) (omega arith) h

  pub coeff_dirty_put : (x : ℕ) → i < s.rows → HoldsN s l → numbers_of s (slice_set l (6 + 2 * i + 1) x) ≡ put_coeff_dirty i x (numbers_of s l)
  unfolding numbers_of numbers_in to_numbers strands_from strands nth put_in
  coeff_dirty_put x h hl = mark_put 1 (6 + 2 * i + 1) x (omega arith) (omega arith) h hl

  pub queue_at : i < s.rows → slice_index l (6 + 2 * s.rows + i) ≡ slice_index (numbers_of s l).queue i
  unfolding numbers_of numbers_in to_numbers nsizes blocks start nth size
  queue_at h =
      let e : 6 + 2 * s.rows + i ≡ start 7 (nsizes s) + i = omega arith in
      ap (λ (p : ℕ). slice_index l p) e ∙ read 7 (nsizes s) l i 0 h

  pub queue_put : (x : ℕ) → i < s.rows → numbers_of s (slice_set l (6 + 2 * s.rows + i) x) ≡ put_queue i x (numbers_of s l)
  unfolding numbers_of numbers_in to_numbers nsizes blocks start nth size put_in
  queue_put x h =
      let e : 6 + 2 * s.rows + i ≡ start 7 (nsizes s) + i = omega arith in
      ap (λ (p : ℕ). numbers_in s (blocks (nsizes s) (slice_set l p x))) e ∙ ap (numbers_in s) (store 7 (nsizes s) l i x h)

  pub wave_at : i < s.rows → slice_index l (6 + 3 * s.rows + i) ≡ slice_index (numbers_of s l).wave i
  unfolding numbers_of numbers_in to_numbers nsizes blocks start nth size
  wave_at h =
      let e : 6 + 3 * s.rows + i ≡ start 8 (nsizes s) + i = omega arith in
      ap (λ (p : ℕ). slice_index l p) e ∙ read 8 (nsizes s) l i 0 h

  pub wave_put : (x : ℕ) → i < s.rows → numbers_of s (slice_set l (6 + 3 * s.rows + i) x) ≡ put_wave i x (numbers_of s l)
  unfolding numbers_of numbers_in to_numbers nsizes blocks start nth size put_in
  wave_put x h =
      let e : 6 + 3 * s.rows + i ≡ start 8 (nsizes s) + i = omega arith in
      ap (λ (p : ℕ). numbers_in s (blocks (nsizes s) (slice_set l p x))) e ∙ ap (numbers_in s) (store 8 (nsizes s) l i x h)

  pub len_at : i < s.rows → slice_index l (6 + 4 * s.rows + 2 * i) ≡ slice_index (numbers_of s l).len i
  unfolding numbers_of numbers_in to_numbers nsizes strands_from strands start nth size
  len_at h = read_strand 9 (nsizes s) l 0 2 s.rows 0 i (6 + 4 * s.rows + 2 * i) (omega arith) (omega arith) h

  pub len_put : (x : ℕ) → i < s.rows → HoldsN s l → numbers_of s (slice_set l (6 + 4 * s.rows + 2 * i) x) ≡ put_len i x (numbers_of s l)
  unfolding numbers_of numbers_in to_numbers strands_from strands nth put_in
  len_put x h hl = len_or_alive_put 0 (6 + 4 * s.rows + 2 * i) x (omega arith) (omega arith) h hl

  pub folded_at : i < s.rows → slice_index l (6 + 6 * s.rows + i) ≡ slice_index (numbers_of s l).folded i
  unfolding numbers_of numbers_in to_numbers nsizes blocks start nth size
  folded_at h =
      let e : 6 + 6 * s.rows + i ≡ start 10 (nsizes s) + i = omega arith in
      ap (λ (p : ℕ). slice_index l p) e ∙ read 10 (nsizes s) l i 0 h

  pub folded_put : (x : ℕ) → i < s.rows → numbers_of s (slice_set l (6 + 6 * s.rows + i) x) ≡ put_folded i x (numbers_of s l)
  unfolding numbers_of numbers_in to_numbers nsizes blocks start nth size put_in
  folded_put x h =
      let e : 6 + 6 * s.rows + i ≡ start 10 (nsizes s) + i = omega arith in
      ap (λ (p : ℕ). numbers_in s (blocks (nsizes s) (slice_set l p x))) e ∙ ap (numbers_in s) (store 10 (nsizes s) l i x h)

  pub alive_at_lem : i < s.rows → slice_index l (6 + 4 * s.rows + 2 * i + 1) ≡ slice_index (numbers_of s l).alive i
  unfolding numbers_of numbers_in to_numbers nsizes strands_from strands start nth size
  alive_at_lem h = read_strand 9 (nsizes s) l 0 2 s.rows 1 i (6 + 4 * s.rows + 2 * i + 1) (omega arith) (omega arith) h

  pub alive_put : (x : ℕ) → i < s.rows → HoldsN s l → numbers_of s (slice_set l (6 + 4 * s.rows + 2 * i + 1) x) ≡ put_alive i x (numbers_of s l)
  unfolding numbers_of numbers_in to_numbers strands_from strands nth put_in
  alive_put x h hl = len_or_alive_put 1 (6 + 4 * s.rows + 2 * i + 1) x (omega arith) (omega arith) h hl

  pub touched_at : i < s.rows → slice_index l (6 + 7 * s.rows + i) ≡ slice_index (numbers_of s l).touched i
  unfolding numbers_of numbers_in to_numbers nsizes blocks start nth size
  touched_at h =
      let e : 6 + 7 * s.rows + i ≡ start 11 (nsizes s) + i = omega arith in
      ap (λ (p : ℕ). slice_index l p) e ∙ read 11 (nsizes s) l i 0 h

  pub touched_put : (x : ℕ) → i < s.rows → numbers_of s (slice_set l (6 + 7 * s.rows + i) x) ≡ put_touched i x (numbers_of s l)
  unfolding numbers_of numbers_in to_numbers nsizes blocks start nth size put_in
  touched_put x h =
      let e : 6 + 7 * s.rows + i ≡ start 11 (nsizes s) + i = omega arith in
      ap (λ (p : ℕ). numbers_in s (blocks (nsizes s) (slice_set l p x))) e ∙ ap (numbers_in s) (store 11 (nsizes s) l i x h)

  pub binaries_at : i < s.rows → slice_index l (6 + 8 * s.rows + i) ≡ slice_index (numbers_of s l).binaries i
  unfolding numbers_of numbers_in to_numbers nsizes blocks start nth size
  binaries_at h =
      let e : 6 + 8 * s.rows + i ≡ start 12 (nsizes s) + i = omega arith in
      ap (λ (p : ℕ). slice_index l p) e ∙ read 12 (nsizes s) l i 0 h

  pub binaries_put : (x : ℕ) → i < s.rows → numbers_of s (slice_set l (6 + 8 * s.rows + i) x) ≡ put_binaries i x (numbers_of s l)
  unfolding numbers_of numbers_in to_numbers nsizes blocks start nth size put_in
  binaries_put x h =
      let e : 6 + 8 * s.rows + i ≡ start 12 (nsizes s) + i = omega arith in
      ap (λ (p : ℕ). numbers_in s (blocks (nsizes s) (slice_set l p x))) e ∙ ap (numbers_in s) (store 12 (nsizes s) l i x h)

  pub fate_at : i < s.rows → slice_index l (6 + 9 * s.rows + i) ≡ slice_index (numbers_of s l).fate i
  unfolding numbers_of numbers_in to_numbers nsizes blocks start nth size
  fate_at h =
      let e : 6 + 9 * s.rows + i ≡ start 13 (nsizes s) + i = omega arith in
      ap (λ (p : ℕ). slice_index l p) e ∙ read 13 (nsizes s) l i 0 h

  pub fate_put : (x : ℕ) → i < s.rows → numbers_of s (slice_set l (6 + 9 * s.rows + i) x) ≡ put_fate i x (numbers_of s l)
  unfolding numbers_of numbers_in to_numbers nsizes blocks start nth size put_in
  fate_put x h =
      let e : 6 + 9 * s.rows + i ≡ start 13 (nsizes s) + i = omega arith in
      ap (λ (p : ℕ). numbers_in s (blocks (nsizes s) (slice_set l p x))) e ∙ ap (numbers_in s) (store 13 (nsizes s) l i x h)

  pub slot_at : i < s.vars → slice_index l (6 + 10 * s.rows + i) ≡ slice_index (numbers_of s l).slot i
  unfolding numbers_of numbers_in to_numbers nsizes blocks start nth size
  slot_at h =
      let e : 6 + 10 * s.rows + i ≡ start 14 (nsizes s) + i = omega arith in
      ap (λ (p : ℕ). slice_index l p) e ∙ read 14 (nsizes s) l i 0 h

  pub slot_put : (x : ℕ) → i < s.vars → numbers_of s (slice_set l (6 + 10 * s.rows + i) x) ≡ put_slot i x (numbers_of s l)
  unfolding numbers_of numbers_in to_numbers nsizes blocks start nth size put_in
  slot_put x h =
      let e : 6 + 10 * s.rows + i ≡ start 14 (nsizes s) + i = omega arith in
      ap (λ (p : ℕ). numbers_in s (blocks (nsizes s) (slice_set l p x))) e ∙ ap (numbers_in s) (store 14 (nsizes s) l i x h)

  pub bad_dec_at : i < s.vars → slice_index l (6 + 10 * s.rows + s.vars + i) ≡ slice_index (numbers_of s l).bad_dec i
  unfolding numbers_of numbers_in to_numbers nsizes blocks start nth size
  bad_dec_at h =
      let e : 6 + 10 * s.rows + s.vars + i ≡ start 15 (nsizes s) + i = omega arith in
      ap (λ (p : ℕ). slice_index l p) e ∙ read 15 (nsizes s) l i 0 h

  pub bad_dec_put : (x : ℕ) → i < s.vars → numbers_of s (slice_set l (6 + 10 * s.rows + s.vars + i) x) ≡ put_bad_dec i x (numbers_of s l)
  unfolding numbers_of numbers_in to_numbers nsizes blocks start nth size put_in
  bad_dec_put x h =
      let e : 6 + 10 * s.rows + s.vars + i ≡ start 15 (nsizes s) + i = omega arith in
      ap (λ (p : ℕ). numbers_in s (blocks (nsizes s) (slice_set l p x))) e ∙ ap (numbers_in s) (store 15 (nsizes s) l i x h)

  pub bad_inc_at : i < s.vars → slice_index l (6 + 10 * s.rows + 2 * s.vars + i) ≡ slice_index (numbers_of s l).bad_inc i
  unfolding numbers_of numbers_in to_numbers nsizes blocks start nth size
  bad_inc_at h =
      let e : 6 + 10 * s.rows + 2 * s.vars + i ≡ start 16 (nsizes s) + i = omega arith in
      ap (λ (p : ℕ). slice_index l p) e ∙ read 16 (nsizes s) l i 0 h

  pub bad_inc_put : (x : ℕ) → i < s.vars → numbers_of s (slice_set l (6 + 10 * s.rows + 2 * s.vars + i) x) ≡ put_bad_inc i x (numbers_of s l)
  unfolding numbers_of numbers_in to_numbers nsizes blocks start nth size put_in
  bad_inc_put x h =
      let e : 6 + 10 * s.rows + 2 * s.vars + i ≡ start 16 (nsizes s) + i = omega arith in
      ap (λ (p : ℕ). numbers_in s (blocks (nsizes s) (slice_set l p x))) e ∙ ap (numbers_in s) (store 16 (nsizes s) l i x h)

  pub vars_at : i < s.terms → slice_index l (6 + 10 * s.rows + 3 * s.vars + i) ≡ slice_index (numbers_of s l).vars i
  unfolding numbers_of numbers_in to_numbers nsizes blocks start nth size
  vars_at h =
      let e : 6 + 10 * s.rows + 3 * s.vars + i ≡ start 17 (nsizes s) + i = omega arith in
      ap (λ (p : ℕ). slice_index l p) e ∙ read 17 (nsizes s) l i 0 h

  pub vars_put : (x : ℕ) → i < s.terms → numbers_of s (slice_set l (6 + 10 * s.rows + 3 * s.vars + i) x) ≡ put_vars i x (numbers_of s l)
  unfolding numbers_of numbers_in to_numbers nsizes blocks start nth size put_in
  vars_put x h =
      let e : 6 + 10 * s.rows + 3 * s.vars + i ≡ start 17 (nsizes s) + i = omega arith in
      ap (λ (p : ℕ). numbers_in s (blocks (nsizes s) (slice_set l p x))) e ∙ ap (numbers_in s) (store 17 (nsizes s) l i x h)

  pub binary_at_lem : i < s.terms → slice_index l (6 + 10 * s.rows + 3 * s.vars + s.terms + i) ≡ slice_index (numbers_of s l).binary i
  unfolding numbers_of numbers_in to_numbers nsizes blocks start nth size
  binary_at_lem h =
      let e : 6 + 10 * s.rows + 3 * s.vars + s.terms + i ≡ start 18 (nsizes s) + i = omega arith in
      ap (λ (p : ℕ). slice_index l p) e ∙ read 18 (nsizes s) l i 0 h

  pub binary_put : (x : ℕ) → i < s.terms → numbers_of s (slice_set l (6 + 10 * s.rows + 3 * s.vars + s.terms + i) x) ≡ put_binary i x (numbers_of s l)
  unfolding numbers_of numbers_in to_numbers nsizes blocks start nth size put_in
  binary_put x h =
      let e : 6 + 10 * s.rows + 3 * s.vars + s.terms + i ≡ start 18 (nsizes s) + i = omega arith in
      ap (λ (p : ℕ). numbers_in s (blocks (nsizes s) (slice_set l p x))) e ∙ ap (numbers_in s) (store 18 (nsizes s) l i x h)

module _ (s : Context) (l : List ℕ) (h : HoldsN s l) where
  pub queued_length : length (numbers_of s l).queued ≡ 1
  unfolding numbers_of numbers_in to_numbers nsizes nth size total
  queued_length = block_length 0 (nsizes s) l (omega arith)

  pub dropped_length : length (numbers_of s l).dropped ≡ 1
  unfolding numbers_of numbers_in to_numbers nsizes nth size total
  dropped_length = block_length 1 (nsizes s) l (omega arith)

  pub tightened_length : length (numbers_of s l).tightened ≡ 1
  unfolding numbers_of numbers_in to_numbers nsizes nth size total
  tightened_length = block_length 2 (nsizes s) l (omega arith)

  pub fixed_length : length (numbers_of s l).fixed ≡ 1
  unfolding numbers_of numbers_in to_numbers nsizes nth size total
  fixed_length = block_length 3 (nsizes s) l (omega arith)

  pub rewrote_length : length (numbers_of s l).rewrote ≡ 1
  unfolding numbers_of numbers_in to_numbers nsizes nth size total
  rewrote_length = block_length 4 (nsizes s) l (omega arith)

  pub passes_length : length (numbers_of s l).passes ≡ 1
  unfolding numbers_of numbers_in to_numbers nsizes nth size total
  passes_length = block_length 5 (nsizes s) l (omega arith)

  pub dirty_length : length (numbers_of s l).dirty ≡ s.rows
  unfolding numbers_of numbers_in to_numbers strands_from strands nth
  dirty_length = strand_length 0 2 0 s.rows (nth 6 (blocks (nsizes s) l))

  pub coeff_dirty_length : length (numbers_of s l).coeff_dirty ≡ s.rows
  unfolding numbers_of numbers_in to_numbers strands_from strands nth
  coeff_dirty_length = strand_length 0 2 1 s.rows (nth 6 (blocks (nsizes s) l))

  pub queue_length : length (numbers_of s l).queue ≡ s.rows
  unfolding numbers_of numbers_in to_numbers nsizes nth size total
  queue_length = block_length 7 (nsizes s) l (omega arith)

  pub wave_length : length (numbers_of s l).wave ≡ s.rows
  unfolding numbers_of numbers_in to_numbers nsizes nth size total
  wave_length = block_length 8 (nsizes s) l (omega arith)

  pub len_length : length (numbers_of s l).len ≡ s.rows
  unfolding numbers_of numbers_in to_numbers strands_from strands nth
  len_length = strand_length 0 2 0 s.rows (nth 9 (blocks (nsizes s) l))

  pub folded_length : length (numbers_of s l).folded ≡ s.rows
  unfolding numbers_of numbers_in to_numbers nsizes nth size total
  folded_length = block_length 10 (nsizes s) l (omega arith)

  pub alive_length : length (numbers_of s l).alive ≡ s.rows
  unfolding numbers_of numbers_in to_numbers strands_from strands nth
  alive_length = strand_length 0 2 1 s.rows (nth 9 (blocks (nsizes s) l))

  pub touched_length : length (numbers_of s l).touched ≡ s.rows
  unfolding numbers_of numbers_in to_numbers nsizes nth size total
  touched_length = block_length 11 (nsizes s) l (omega arith)

  pub binaries_length : length (numbers_of s l).binaries ≡ s.rows
  unfolding numbers_of numbers_in to_numbers nsizes nth size total
  binaries_length = block_length 12 (nsizes s) l (omega arith)

  pub fate_length : length (numbers_of s l).fate ≡ s.rows
  unfolding numbers_of numbers_in to_numbers nsizes nth size total
  fate_length = block_length 13 (nsizes s) l (omega arith)

  pub slot_length : length (numbers_of s l).slot ≡ s.vars
  unfolding numbers_of numbers_in to_numbers nsizes nth size total
  slot_length = block_length 14 (nsizes s) l (omega arith)

  pub bad_dec_length : length (numbers_of s l).bad_dec ≡ s.vars
  unfolding numbers_of numbers_in to_numbers nsizes nth size total
  bad_dec_length = block_length 15 (nsizes s) l (omega arith)

  pub bad_inc_length : length (numbers_of s l).bad_inc ≡ s.vars
  unfolding numbers_of numbers_in to_numbers nsizes nth size total
  bad_inc_length = block_length 16 (nsizes s) l (omega arith)

  pub vars_length : length (numbers_of s l).vars ≡ s.terms
  unfolding numbers_of numbers_in to_numbers nsizes nth size total
  vars_length = block_length 17 (nsizes s) l (omega arith)

  pub binary_length : length (numbers_of s l).binary ≡ s.terms
  unfolding numbers_of numbers_in to_numbers nsizes nth size total
  binary_length = block_length 18 (nsizes s) l (omega arith)
