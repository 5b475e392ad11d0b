-- A colour sequence that is cut after its last 0, and the sequences that it becomes with its names.
use Rattle.std.proofs.Common.{◌≡◌, ℕ, zero, suc, ◌+◌, ◌-◌, ◌<◌, ◌≤◌, Bool, true, false}
use Rattle.std.proofs.Common.{List, [], ◌∷◌, ◌++◌, length, map, take, drop, refl, sym, ap, ap₂, ◌∙◌, subst, arith}
use Rattle.std.proofs.Common.{append_assoc, length-append}
use Rattle.std.specs.Prelude.{nat_le, if◌then◌else◌}
use Rattle.std.specs.Char.{is_ascii_digit}
use Rattle.std.specs.List.{AllByRecursion, list_all, list_any}
use Rattle.std.proofs.Math.Seq.{drop-append_seam}
use Rattle.std.proofs.lemmas.Bool.{and_parts}
use Rattle.std.proofs.lemmas.Bool.Decides.{nat_tests}
use Rattle.std.proofs.lemmas.List.{drop-map, length-map, take-append-drop, take-map}
use Rattle.ans_model.specs.Bytes.{escape, bracket, semicolon}
use Rattle.ans_model.specs.Sequence.TokenKind.{Colours}
use Rattle.ans_players.specs.Situations.{Spelled}
use Rattle.ans_mend.specs.NamedColours.{after_zero, count_to_zero, ends_number, is_zero}
use Rattle.ans_mend.specs.NamedColours.{through_numbers, to_zero}
use Rattle.ans_names_laws.specs.NamedTokens.{colours_of, numbers_after_zero}
use Rattle.ans_names_laws.specs.NamedTokens.{numbers_through_zero}
use Rattle.ans_names_laws.proofs.ColourTexts.{AreDigits, IsNumber, IsWritten, tail, value_of, written}

-- ---- bytes up to a number

digit_goes_on : (b : ℕ) → is_ascii_digit b ≡ true → ends_number b ≡ false
digit_goes_on b h = grind (arith, nat_tests)

through_run : (count : ℕ) (t : List ℕ) (b : ℕ) (more : List ℕ) → AreDigits t → ends_number b ≡ true
    → through_numbers count (t ++ b ∷ more)
    ≡ t ++ (if nat_le count 1 then [] else b ∷ through_numbers (count - 1) more)
through_run count [] b more h ends = rw ends refl
through_run count (d ∷ t) b more h ends =
    let parts = and_parts (is_ascii_digit d) (list_all is_ascii_digit t) h in
    rw (digit_goes_on d parts.0) (ap (λ (v : List ℕ). d ∷ v) (through_run count t b more parts.1 ends))

-- texts of numbers, each after its `;`
abbrev pub lead : List (List ℕ) → List ℕ
lead [] = []
lead (t ∷ ts) = semicolon ∷ (t ++ lead ts)

pub tail_append : (a b : List (List ℕ)) → tail (a ++ b) ≡ lead a ++ tail b
tail_append [] b = refl
tail_append (t ∷ a) b =
    ap (λ (v : List ℕ). semicolon ∷ (t ++ v)) (tail_append a b)
    ∙ ap (λ (v : List ℕ). semicolon ∷ v) (sym (append_assoc t (lead a) (tail b)))

more_than_one : (k : ℕ) → nat_le (suc k + 1) 1 ≡ false
more_than_one k = grind (arith, nat_tests)

through_tail : (k : ℕ) (t : List ℕ) (ts : List (List ℕ)) → AllByRecursion IsNumber (t ∷ ts) → k ≤ length ts
    → through_numbers (k + 1) (t ++ tail ts) ≡ t ++ lead (take k ts)
through_tail zero t [] h within = through_run 1 t 0x6D [] h.0.0 refl
through_tail zero t (u ∷ us) h within = through_run 1 t semicolon (u ++ tail us) h.0.0 refl
through_tail (suc k) t [] h within = absurd (let no : ⊥ = omega (arith, within) in no)
through_tail (suc k) t (u ∷ us) h within =
    let less : suc k + 1 - 1 ≡ k + 1 = omega arith in
    through_run (suc k + 1) t semicolon (u ++ tail us) h.0.0 refl
    ∙ ap (λ (v : Bool). t ++ (if v then [] else semicolon ∷ through_numbers (suc k + 1 - 1) (u ++ tail us)))
    (more_than_one k)
    ∙ ap (λ (v : ℕ). t ++ semicolon ∷ through_numbers v (u ++ tail us)) less
    ∙ ap (λ (v : List ℕ). t ++ semicolon ∷ v) (through_tail k u us h.1 (omega (arith, within)))

-- ---- the cut

count_within : (ns : List ℕ) → count_to_zero ns ≤ length ns
count_within [] = omega arith
count_within (n ∷ ns) = go (list_any is_zero (n ∷ ns)) refl (count_within ns)
  where
    go : (b : Bool) → list_any is_zero (n ∷ ns) ≡ b → count_to_zero ns ≤ length ns
        → count_to_zero (n ∷ ns) ≤ length (n ∷ ns)
    go true is h = rw is (omega (arith, h))
    go false is h = rw is (omega arith)

-- a sequence by its numbers up to its last 0, and those after it
pub record IsCut (x : Spelled) : Type 0 where
  pub first : List ℕ
  pub lower : List (List ℕ)
  pub upper : List (List ℕ)
  pub firsts : AllByRecursion IsNumber (first ∷ lower)
  pub others : AllByRecursion IsNumber upper
  pub few : length lower + length upper < 16
  pub whole : x.text ≡ written first (lower ++ upper)
  pub front : to_zero x ≡ escape ∷ bracket ∷ (first ++ lead lower)
  pub rest : after_zero x ≡ tail upper
  pub front_numbers : numbers_through_zero x.token ≡ map value_of (first ∷ lower)
  pub rest_numbers : numbers_after_zero x.token ≡ map value_of upper
  pub numbers : x.token ≡ Colours (map value_of (first ∷ (lower ++ upper)))

pub numbers_taken : (k : ℕ) (ts : List (List ℕ)) → AllByRecursion IsNumber ts → AllByRecursion IsNumber (take k ts)
numbers_taken zero ts h = tt
numbers_taken (suc k) [] h = tt
numbers_taken (suc k) (t ∷ ts) h = (h.0, numbers_taken k ts h.1)

pub numbers_dropped : (k : ℕ) (ts : List (List ℕ)) → AllByRecursion IsNumber ts → AllByRecursion IsNumber (drop k ts)
numbers_dropped zero ts h = h
numbers_dropped (suc k) [] h = tt
numbers_dropped (suc k) (t ∷ ts) h = numbers_dropped k ts h.1

cut_written : (t : List ℕ) (ts : List (List ℕ)) → AllByRecursion IsNumber (t ∷ ts) → length ts < 16
    → list_any is_zero (map value_of (t ∷ ts)) ≡ true
    → IsCut (colours_of (map value_of (t ∷ ts)) (written t ts))
cut_written t ts h few any =
    let k : ℕ = count_to_zero (map value_of ts) in
    let long : length (map value_of ts) ≡ length ts = length-map ts value_of in
    let within : k ≤ length ts = omega (arith, count_within (map value_of ts), long) in
    let count : count_to_zero (map value_of (t ∷ ts)) ≡ k + 1 = rw any refl in
    let next : k + 1 ≡ suc k = omega arith in
    let front : to_zero (colours_of (map value_of (t ∷ ts)) (written t ts))
    ≡ escape ∷ bracket ∷ (t ++ lead (take k ts)) =
    ap (λ (v : ℕ). escape ∷ bracket ∷ through_numbers v (t ++ tail ts)) count
    ∙ ap (λ (v : List ℕ). escape ∷ bracket ∷ v) (through_tail k t ts h within) in
    let whole : t ++ tail ts ≡ (t ++ lead (take k ts)) ++ tail (drop k ts) =
    ap (λ (v : List (List ℕ)). t ++ tail v) (sym (take-append-drop k ts))
    ∙ ap (λ (v : List ℕ). t ++ v) (tail_append (take k ts) (drop k ts))
    ∙ sym (append_assoc t (lead (take k ts)) (tail (drop k ts))) in
    record {
      first = t;
      lower = take k ts;
      upper = drop k ts;
      firsts = (h.0, numbers_taken k ts h.1);
      others = numbers_dropped k ts h.1;
      few = let parts = ap length (take-append-drop k ts) in
          let sum = length-append (take k ts) (drop k ts) in omega (arith, few, parts, sum);
      whole = ap (λ (v : List (List ℕ)). written t v) (sym (take-append-drop k ts));
      front = front;
      rest = ap (λ (v : List ℕ). drop (length v) (written t ts)) front
          ∙ ap (λ (v : List ℕ). drop (length (t ++ lead (take k ts))) v) whole
          ∙ drop-append_seam (t ++ lead (take k ts)) (tail (drop k ts));
      front_numbers = ap (λ (v : ℕ). take v (map value_of (t ∷ ts))) (count ∙ next)
          ∙ ap (λ (v : List ℕ). value_of t ∷ v) (take-map value_of k ts);
      rest_numbers = ap (λ (v : ℕ). drop v (map value_of (t ∷ ts))) (count ∙ next) ∙ drop-map value_of k ts;
      numbers = ap (λ (v : List (List ℕ)). Colours (map value_of (t ∷ v))) (sym (take-append-drop k ts));
    }

pub is_cut : (ps text : List ℕ) → IsWritten ps text → list_any is_zero ps ≡ true → IsCut (colours_of ps text)
is_cut ps text w any =
    let same : colours_of ps text ≡ colours_of (map value_of (w.first ∷ w.others)) (written w.first w.others) =
    ap₂ colours_of w.values w.whole in
    subst IsCut (sym same) (cut_written w.first w.others w.numbers w.few (rw w.values at any))
