-- What is held of a line, and that it tells as much as the line.
use Rattle.std.proofs.Common.{◌≡◌, ℕ, ◌+◌, ◌-◌, ◌≤◌, min, eqb, leb, List, [], ◌∷◌, ◌++◌, length}
use Rattle.std.proofs.Common.{get_or, take, drop, Some, None, Option, sym, refl, ap, ◌∙◌, append_assoc, arith}
use lib.Seq.{take-append-add}
use Rattle.std.specs.List.{between}
use Rattle.std.proofs.lemmas.List.{take_min, length-take, length-take-le, length-append, take_at, take-take, get_or-take}
use Rattle.std.proofs.lemmas.Slice.{between_is}
use Rattle.std.proofs.lemmas.Bool.Decides.{nat_tests}
use Rattle.simulator.specs.Lines.{TellsAsMuch}
use Rattle.simulator.specs.Request.{command_in, number_at, is_closed, with_a, with_b}
use Rattle.simulator.specs.declared.request.Command.{Command}

least : (n k : ℕ) → n ≤ 22 → leb n (min 22 k) ≡ leb n k
least n k h = grind (arith, nat_tests)

same_length : (k : ℕ) → eqb (min 22 k) 21 ≡ eqb k 21
same_length k = grind (arith, nat_tests)

same_part : (line : List ℕ) (i j : ℕ) → j ≤ 22 → between i j (take 22 line) ≡ between i j line
same_part line i j h =
    between_is (take 22 line) i j ∙ ap (drop i) (take-take j 22 line h) ∙ sym (between_is line i j)

same_number : (line : List ℕ) (i j : ℕ) → j ≤ 22 → number_at (take 22 line) i j ≡ number_at line i j
same_number line i j h =
    let l : leb j (length (take 22 line)) ≡ leb j (length line) = ap (leb j) (length-take 22 line) ∙ least j (length line) h in
    rw (same_part line i j h, l)

same_end : (line : List ℕ) → is_closed (take 22 line) ≡ is_closed line
same_end line =
    let l : eqb (length (take 22 line)) 21 ≡ eqb (length line) 21 = ap (λ (n : ℕ). eqb n 21) (length-take 22 line) ∙ same_length (length line) in
    let g : get_or (take 22 line) 20 0 ≡ get_or line 20 0 = get_or-take 22 line 20 0 (omega arith) in
    rw (l, g)

same_command : (line : List ℕ) → command_in (take 22 line) ≡ command_in line
same_command [] = refl
same_command (b ∷ bs) = refl

by_b : (c : Command) (line : List ℕ) (a : ℕ) (o : Option ℕ) → with_b c (take 22 line) a o ≡ with_b c line a o
by_b c line a None = refl
by_b c line a (Some b) = rw (same_end line)

by_a : (c : Command) (line : List ℕ) (o : Option ℕ) → with_a c (take 22 line) o ≡ with_a c line o
by_a c line None = refl
by_a c line (Some a) =
    ap (with_b c (take 22 line) a) (same_number line 6 20 (omega arith)) ∙ by_b c line a (number_at line 6 20)

pub tells_as_much : TellsAsMuch
tells_as_much =
    record {
      command = same_command;
      fields =
          λ c line. ap (with_a c (take 22 line)) (same_number line 1 6 (omega arith)) ∙ by_a c line (number_at line 1 6);
    }

-- the first bytes of two lists: all of the first, and of the second what there is room for
pub room_for :
    (xs ys rest : List ℕ) (at more : ℕ) → length xs ≡ at → at ≤ 22 → more ≡ min (length ys) (22 - at) →
    take (at + more) (xs ++ (take more ys ++ rest)) ≡ take 22 (xs ++ ys)
room_for xs ys rest at more e h m =
    let long : length (take more ys) ≡ more = length-take-le more ys (omega arith) in
    let all : length (xs ++ take more ys) ≡ at + more = length-append xs (take more ys) ∙ omega arith in
    let least : more ≡ min (22 - at) (length ys) = omega arith in
    let front : take more ys ≡ take (22 - at) ys = rw least (take_min (22 - at) ys) in
    let room : length xs + (22 - at) ≡ 22 = omega arith in
    ap (take (at + more)) (sym (append_assoc xs (take more ys) rest))
    ∙ take_at (xs ++ take more ys) rest _ all
    ∙ ap (λ (zs : List ℕ). xs ++ zs) front
    ∙ sym (take-append-add xs ys (22 - at))
    ∙ ap (λ (n : ℕ). take n (xs ++ ys)) room
