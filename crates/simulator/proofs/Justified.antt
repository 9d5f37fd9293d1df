-- A number is written into its columns from the right, and the numbers of a line one after another.
use Rattle.std.proofs.Common.{◌≡◌, ℕ, zero, suc, ◌+◌, ◌/◌, ◌%◌, ◌≤◌, List, [], ◌∷◌, ◌++◌}
use Rattle.std.proofs.Common.{length, get_or, take, drop, set, sym, refl, ap, ◌∙◌, append_assoc, add-one, arith}
use borrow.Rule.Slice.PartMut.{put_mid}
use Rattle.std.proofs.lemmas.List.{length-append, length-drop, length-take-le, take_at, drop_at, set_at, drop-drop, drop_more, drop_all, nil_from_length}
use Rattle.simulator.specs.Print.{column, columns_before, justified, printed}
use Rattle.simulator.specs.declared.answer.Columns.{Columns}

-- no columns
pub no_columns : (xs : List ℕ) (n : ℕ) → length xs ≡ 0 → xs ≡ columns_before (length xs) n
unfolding columns_before
no_columns xs n e = rw (nil_from_length xs e)

pub none : (xs : List ℕ) (n : ℕ) → length xs ≡ 0 → xs ≡ justified (length xs) n
unfolding justified
none xs n e = rw (nil_from_length xs e)

-- one column more
pub one_more : (w v n : ℕ) → v + 1 ≡ w → columns_before v (n / 10) ++ (column n ∷ []) ≡ columns_before w n
unfolding columns_before
one_more w v n e = let k : w ≡ suc v = omega arith in rw k refl

pub last_one : (w v n : ℕ) → v + 1 ≡ w → columns_before v (n / 10) ++ ((48 + n % 10) ∷ []) ≡ justified w n
unfolding justified
last_one w v n e = let k : w ≡ suc v = omega arith in rw k refl

-- the columns are as many as asked for
length_before : (w n : ℕ) → length (columns_before w n) ≡ w
unfolding columns_before
length_before zero n = refl
length_before (suc w) n =
    length-append (columns_before w (n / 10)) (column n ∷ []) ∙ ap (λ (k : ℕ). k + 1) (length_before w (n / 10)) ∙ add-one w

pub length-justified : (w n : ℕ) → length (justified w n) ≡ w
unfolding justified
length-justified zero n = refl
length-justified (suc w) n =
    length-append (columns_before w (n / 10)) ((48 + n % 10) ∷ []) ∙ ap (λ (k : ℕ). k + 1) (length_before w (n / 10)) ∙ add-one w

-- a number written into the next k columns of a line whose front is done
pub record Placed (front rest ys whole : List ℕ) (at k n : ℕ) : Type 0 where
  pub number : ys ≡ justified k n
  pub whole' : put_mid at k whole ys ≡ (front ++ ys) ++ drop k rest
  pub far : length (front ++ ys) ≡ at + k

pub placed :
    (front rest ys whole : List ℕ) (at k n : ℕ) → whole ≡ front ++ rest → length front ≡ at → k ≤ length rest →
    ys ≡ justified (length (take k (drop at whole))) n → Placed front rest ys whole at k n
placed front rest ys whole at k n q f r h =
    let d : drop at whole ≡ rest = rw q (drop_at front rest at f) in
    let t : take at whole ≡ front = rw q (take_at front rest at f) in
    let l : length (take k (drop at whole)) ≡ k = rw d (length-take-le k rest r) in
    let y : ys ≡ justified k n = h ∙ ap (λ (w : ℕ). justified w n) l in
    record {
      number = y;
      whole' =
          ap (λ (x : List ℕ). x ++ (ys ++ drop k (drop at whole))) t
          ∙ ap (λ (x : List ℕ). front ++ (ys ++ drop k x)) d
          ∙ sym (append_assoc front ys (drop k rest));
      far = length-append front ys ∙ ap (λ (x : ℕ). x + length ys) f ∙ ap (λ (x : ℕ). at + x) (ap length y ∙ length-justified k n);
    }

-- the four numbers and the line feed
pub laid :
    (xs a b d e : List ℕ) (n : ℕ) (columns : Columns) → length xs ≡ 34 → a ≡ justified (length (take 6 xs)) n →
    b ≡ justified (length (take 4 (drop 6 (a ++ drop 6 xs)))) columns.series →
    d ≡ justified (length (take 3 (drop 10 (put_mid 6 4 (a ++ drop 6 xs) b)))) columns.code →
    e ≡ justified (length (take 20 (drop 13 (put_mid 10 3 (put_mid 6 4 (a ++ drop 6 xs) b) d)))) columns.last →
    set (put_mid 13 20 (put_mid 10 3 (put_mid 6 4 (a ++ drop 6 xs) b) d) e) 33 10 ≡ printed n columns
unfolding printed
laid xs a b d e n columns long ha hb hd he =
    let p1 : Placed [] xs a xs 0 6 n = placed [] xs a xs 0 6 n refl refl (omega arith) ha in
    let r1 = drop 6 xs in
    let p2 : Placed a r1 b (a ++ r1) 6 4 columns.series = placed a r1 b (a ++ r1) 6 4 columns.series refl p1.far (simp length-drop (omega arith)) hb in
    let r2 = drop 4 r1 in
    let p3 : Placed (a ++ b) r2 d (put_mid 6 4 (a ++ r1) b) 10 3 columns.code =
    placed (a ++ b) r2 d (put_mid 6 4 (a ++ r1) b) 10 3 columns.code p2.whole' p2.far
    (simp length-drop (omega arith)) hd in
    let r3 = drop 3 r2 in
    let p4 : Placed ((a ++ b) ++ d) r3 e (put_mid 10 3 (put_mid 6 4 (a ++ r1) b) d) 13 20 columns.last =
    placed ((a ++ b) ++ d) r3 e (put_mid 10 3 (put_mid 6 4 (a ++ r1) b) d) 13 20 columns.last p3.whole' p3.far
    (simp length-drop (omega arith)) he in
    let r4 = drop 20 r3 in
    let front = ((a ++ b) ++ d) ++ e in
    let all : r4 ≡ drop 33 xs = simp drop-drop in
    let one : drop 33 xs ≡ get_or xs 33 0 ∷ [] = drop_more xs 33 0 (omega arith) ∙ ap (λ (ys : List ℕ). get_or xs 33 0 ∷ ys) (drop_all 34 xs (omega arith)) in
    let w : set (front ++ r4) 33 10 ≡ front ++ (10 ∷ []) = rw (all, one) (set_at front (get_or xs 33 0) [] 10 33 p4.far) in
    ap (λ (x : List ℕ). set x 33 10) p4.whole' ∙ w ∙ simp (p1.number, p2.number, p3.number, p4.number, append_assoc)
