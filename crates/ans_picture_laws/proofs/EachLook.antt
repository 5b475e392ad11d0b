-- How each byte looks.
use Rattle.std.proofs.Common.{◌≡◌, ℕ, ◌<◌, Bool, true, false, refl, sym}
use Rattle.std.specs.Prelude.{◌&&◌, ◌==◌, not}
use Rattle.std.proofs.lemmas.Bool.{eqb-true, and_parts}
use Rattle.ans_show.specs.Looks.{Look, look_of}
use Rattle.ans_show.proofs.EachByte.{holds_at}
use Rattle.ans_picture_laws.specs.Seen.{attribute_of}

abbrev same_bool : Bool → Bool → Bool
same_bool true b = b
same_bool false true = false
same_bool false false = true

same_bools : (a b : Bool) → same_bool a b ≡ true → a ≡ b
same_bools true b h = sym h
same_bools false true h = absurd (cc)
same_bools false false h = refl

-- whether two looks are the same
abbrev pub same_look : Look → Look → Bool
same_look l m = l.foreground == m.foreground && (l.background == m.background && same_bool l.blinks m.blinks)

pub same_looks : (l m : Look) → same_look l m ≡ true → l ≡ m
same_looks l m h =
    let one = and_parts (l.foreground == m.foreground)
    (l.background == m.background && same_bool l.blinks m.blinks) h in
    let two = and_parts (l.background == m.background) (same_bool l.blinks m.blinks) one.1 in
    let f = eqb-true l.foreground m.foreground one.0 in
    let b = eqb-true l.background m.background two.0 in
    let k = same_bools l.blinks m.blinks two.1 in
    λ i. record { foreground = f i; background = b i; blinks = k i }

-- a look tells the attribute
pub look_tells : (non_blink : Bool) (a : ℕ) → a < 256 → attribute_of (look_of non_blink a) ≡ a
look_tells true a lt =
    eqb-true (attribute_of (look_of true a)) a
    (holds_at 256 (λ a. attribute_of (look_of true a) == a) refl a lt)
look_tells false a lt =
    eqb-true (attribute_of (look_of false a)) a
    (holds_at 256 (λ a. attribute_of (look_of false a) == a) refl a lt)

pub not_true : (b : Bool) → not b ≡ true → b ≡ false
not_true true h = sym h
not_true false h = refl
