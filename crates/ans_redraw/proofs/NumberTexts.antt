-- The texts of numbers, as they are written and counted.
use Rattle.std.proofs.Common.{◌≡◌, ℕ, ◌+◌, ◌-◌, ◌/◌, ◌%◌, ◌<◌, ◌≤◌, Bool, true, false, refl, ap}
use Rattle.std.proofs.Common.{sym, ◌∙◌, arith, List, [], ◌∷◌, ◌++◌, length, length-append, map, take, append_assoc}
use Rattle.std.proofs.Common.{append-nil}
use Rattle.std.specs.Prelude.{decimal, nat_le, ◌||◌, if◌then◌else◌}
use Rattle.std.specs.Fmt.{digits}
use Rattle.std.specs.List.{join_with_byte}
use Rattle.std.specs.Str.{bytes_eq}
use Rattle.std.proofs.lemmas.Bool.{agree_below_at, ne_eqb}
use Rattle.std.proofs.lemmas.Bool.Decides.{nat_tests}
use Rattle.std.proofs.lemmas.Slice.Eq.{bytes_eq-Decides}
use Rattle.std.proofs.lemmas.Grind.{flat_map-append}
use Rattle.std.proofs.lemmas.List.{length-take-le, take_at, take-take}
use Rattle.ans_model.specs.Bytes.{IsByte, escape, bracket, semicolon}
use Rattle.ans_players.specs.Situations.{Spelled}
use Rattle.ans_redraw.specs.Colours.{foreground_of, is_bright, background_of, blinks, ansi_number, parameter_if}
use Rattle.ans_redraw.specs.Colours.{anew, numbers_to, colour_sequence, colour_token, colours_to}
use Rattle.ans_redraw.specs.Form.{texts}
use Rattle.ans_redraw.specs.Numbers.{listed}
use Rattle.ans_redraw.proofs.ColourParts.{some_number}

-- ---- digits
pub one_digit : (n : ℕ) → n < 10 → decimal n ≡ (0x30 + n) ∷ []
unfolding digits
one_digit n lt =
    (bytes_eq-Decides (decimal n) ((0x30 + n) ∷ [])).0
    (agree_below_at (λ n. bytes_eq (decimal n) ((0x30 + n) ∷ [])) (λ n. true) 10 n refl lt)

-- a number below 90 and 10 more
pub two_digits : (n : ℕ) → 10 ≤ n → n < 100 → decimal n ≡ (0x30 + n / 10) ∷ (0x30 + n % 10) ∷ []
unfolding digits
two_digits n ge lt =
    let test : ℕ → Bool = λ m. nat_le m 9 || bytes_eq (decimal m) ((0x30 + m / 10) ∷ (0x30 + m % 10) ∷ []) in
    let all : test n ≡ true = agree_below_at test (λ n. true) 100 n refl lt in
    let more : nat_le n 9 ≡ false = grind (arith, nat_tests) in
    (bytes_eq-Decides (decimal n) ((0x30 + n / 10) ∷ (0x30 + n % 10) ∷ [])).0 (rw more at all)

-- ---- numbers that are there, or not
pub digit_if : (there : Bool) (n : ℕ) → n < 10
    → take (if there then 2 else 0) ((0x30 + n) ∷ semicolon ∷ []) ≡ listed (parameter_if there n)
digit_if true n lt = rw (one_digit n lt) refl
digit_if false n lt = refl

pub number_is_there : (there : Bool) (n : ℕ) → 10 ≤ n → n < 100
    → take (if there then 3 else 0) ((0x30 + n / 10) ∷ (0x30 + n % 10) ∷ semicolon ∷ []) ≡ listed (parameter_if there n)
number_is_there true n ge lt = rw (two_digits n ge lt) refl
number_is_there false n ge lt = refl

listed_both : (xs ys : List ℕ) → listed (xs ++ ys) ≡ listed xs ++ listed ys
listed_both xs ys = flat_map-append (λ (n : ℕ). decimal n ++ semicolon ∷ []) xs ys

-- ---- the sequence
-- numbers that are listed are joined, and a semicolon stands behind them
listed_joined : (n : ℕ) (ns : List ℕ)
    → listed (n ∷ ns) ≡ join_with_byte semicolon (map decimal (n ∷ ns)) ++ semicolon ∷ []
listed_joined n [] = append-nil (decimal n ++ semicolon ∷ [])
listed_joined n (m ∷ ns) =
    ap (λ (x : List ℕ). (decimal n ++ semicolon ∷ []) ++ x) (listed_joined m ns)
    ∙ append_assoc (decimal n) (semicolon ∷ []) (join_with_byte semicolon (map decimal (m ∷ ns)) ++ semicolon ∷ [])
    ∙ sym (append_assoc (decimal n) (semicolon ∷ join_with_byte semicolon (map decimal (m ∷ ns))) (semicolon ∷ []))

-- ---- what is written
-- where a text ends, by what was written to it
pub end_is : (before text : List ℕ) (start end : ℕ) (x : List ℕ) → start ≤ length before → end ≤ length text
    → take end text ≡ take start before ++ x → end ≡ start + length x
end_is before text start end x le le' e =
    omega (
      arith,
      ap length e,
      length-append (take start before) x,
      length-take-le start before le,
      length-take-le end text le',
    )

-- without its last byte
last_off : (before text x : List ℕ) (y end : ℕ) → end ≤ length text → take end text ≡ before ++ (x ++ y ∷ [])
    → (1 ≤ end) × (take (end - 1) text ≡ before ++ x)
last_off before text x y end le e =
    let long : end ≡ length (before ++ x) + 1 =
    omega (
      arith,
      ap length e,
      length-append before (x ++ y ∷ []),
      length-append x (y ∷ []),
      length-append before x,
      length-take-le end text le,
    ) in
    let front : take (end - 1) (take end text) ≡ take (end - 1) text = take-take (end - 1) end text (omega arith) in (
      omega arith,
      sym front ∙ ap (take (end - 1)) (e ∙ sym (append_assoc before x (y ∷ [])))
          ∙ take_at (before ++ x) (y ∷ []) (end - 1) (omega arith),
    )

-- the last semicolon becomes the letter
letter_behind : (before text : List ℕ) (end : ℕ) (ns : List ℕ) → (ns ≡ [] → ⊥) → end ≤ length text
    → take end text ≡ (before ++ escape ∷ bracket ∷ []) ++ listed ns
    → (1 ≤ end) × (take (end - 1) text ++ 0x6D ∷ [] ≡ before ++ (colour_sequence ns ++ []))
letter_behind before text end [] some le e = absurd (some refl)
letter_behind before text end (n ∷ ns) some le e =
    let start : List ℕ = escape ∷ bracket ∷ [] in
    let joined : List ℕ = join_with_byte semicolon (map decimal (n ∷ ns)) in
    let off =
    last_off (before ++ start) text joined semicolon end le
    (e ∙ ap (λ (x : List ℕ). (before ++ start) ++ x) (listed_joined n ns)) in (
      off.0,
      ap (λ (x : List ℕ). x ++ 0x6D ∷ []) off.1 ∙ append_assoc (before ++ start) joined (0x6D ∷ [])
          ∙ append_assoc before start (joined ++ 0x6D ∷ [])
          ∙ ap (λ (x : List ℕ). before ++ x) (sym (append-nil (start ++ (joined ++ 0x6D ∷ [])))),
    )

-- the sequence from one attribute to another
pub colours_written : (before first text : List ℕ) (start end from to : ℕ) → IsByte from → IsByte to
    → (from ≡ to → ⊥) → end ≤ length text → take start first ≡ before ++ escape ∷ bracket ∷ []
    → take end text ≡ take start first ++ listed (numbers_to from to)
    → (1 ≤ end) × (take (end - 1) text ++ 0x6D ∷ [] ≡ before ++ texts (colours_to from to))
colours_written before first text start end from to is_from is_to apart le begun e =
    let there =
    letter_behind before text end (numbers_to from to) (some_number from to is_from is_to apart) le
    (e ∙ ap (λ (x : List ℕ). x ++ listed (numbers_to from to)) begun) in
    let is : colours_to from to ≡ colour_token (numbers_to from to) ∷ [] = rw (ne_eqb from to apart) refl in
    (there.0, there.1 ∙ ap (λ (xs : List Spelled). before ++ texts xs) (sym is))

-- 0, and the numbers of all parts
anew_listed : (before : List ℕ) (to : ℕ)
    → ((((before ++ listed (parameter_if true 0)) ++ listed (parameter_if (is_bright to) 1))
    ++ listed (parameter_if (blinks to) 5))
    ++ listed (parameter_if true (30 + ansi_number (foreground_of to))))
    ++ listed (parameter_if true (40 + ansi_number (background_of to)))
    ≡ before ++ listed (anew to)
anew_listed before to =
    let zero : List ℕ = parameter_if true 0 in
    let bright : List ℕ = parameter_if (is_bright to) 1 in
    let blink : List ℕ = parameter_if (blinks to) 5 in
    let front : List ℕ = parameter_if true (30 + ansi_number (foreground_of to)) in
    let back : List ℕ = parameter_if true (40 + ansi_number (background_of to)) in
    let two : List ℕ = front ++ back in
    append_assoc (((before ++ listed zero) ++ listed bright) ++ listed blink) (listed front) (listed back)
    ∙ append_assoc ((before ++ listed zero) ++ listed bright) (listed blink) (listed front ++ listed back)
    ∙ append_assoc (before ++ listed zero) (listed bright) (listed blink ++ (listed front ++ listed back))
    ∙ append_assoc before (listed zero) (listed bright ++ (listed blink ++ (listed front ++ listed back)))
    ∙ ap (λ (v : List ℕ). before ++ (listed zero ++ (listed bright ++ (listed blink ++ v))))
    (sym (listed_both front back))
    ∙ ap (λ (v : List ℕ). before ++ (listed zero ++ (listed bright ++ v))) (sym (listed_both blink two))
    ∙ ap (λ (v : List ℕ). before ++ (listed zero ++ v)) (sym (listed_both bright (blink ++ two)))
    ∙ ap (λ (v : List ℕ). before ++ v) (sym (listed_both zero (bright ++ (blink ++ two))))

pub anew_text : (before t0 t1 t2 t3 t4 : List ℕ) (to f g : ℕ) (bright blink : Bool) → bright ≡ is_bright to
    → blink ≡ blinks to → f ≡ ansi_number (foreground_of to) → g ≡ ansi_number (background_of to)
    → t0 ≡ before ++ listed (parameter_if true 0) → t1 ≡ t0 ++ listed (parameter_if bright 1)
    → t2 ≡ t1 ++ listed (parameter_if blink 5) → t3 ≡ t2 ++ listed (parameter_if true (30 + f))
    → t4 ≡ t3 ++ listed (parameter_if true (40 + g)) → t4 ≡ before ++ listed (anew to)
anew_text before t0 t1 t2 t3 t4 to f g bright blink b k i j e0 e1 e2 e3 e4 =
    e4 ∙ ap (λ (n : ℕ). t3 ++ listed (parameter_if true (40 + n))) j
    ∙ ap (λ (v : List ℕ). v ++ listed (parameter_if true (40 + ansi_number (background_of to))))
    (e3 ∙ ap (λ (n : ℕ). t2 ++ listed (parameter_if true (30 + n))) i
    ∙ ap (λ (v : List ℕ). v ++ listed (parameter_if true (30 + ansi_number (foreground_of to))))
    (e2 ∙ ap (λ (t : Bool). t1 ++ listed (parameter_if t 5)) k
    ∙ ap (λ (v : List ℕ). v ++ listed (parameter_if (blinks to) 5))
    (e1 ∙ ap (λ (t : Bool). t0 ++ listed (parameter_if t 1)) b
    ∙ ap (λ (v : List ℕ). v ++ listed (parameter_if (is_bright to) 1)) e0)))
    ∙ anew_listed before to
