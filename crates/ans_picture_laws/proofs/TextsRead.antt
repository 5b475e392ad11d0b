-- What is seen of one text after another.
use Rattle.std.proofs.Common.{◌≡◌, ℕ, ◌<◌, Bool, true, ◌&&◌, nat_lt, List, [], ◌∷◌, ◌++◌, refl, ap, ap₂, sym, ◌∙◌}
use Rattle.std.proofs.Common.{subst, append_assoc, append-nil, arith}
use Rattle.std.specs.Prelude.{chars, encode_utf8_all, All}
use Rattle.std.specs.List.{flat_map}
use Rattle.std.specs.Str.{IsUtf8, all_scalars}
use Rattle.std.proofs.lemmas.Bool.{and_parts}
use Rattle.std.proofs.lemmas.Bool.Decides.{nat_tests}
use Rattle.std.proofs.lemmas.List.Elements.{All-head, All-tail}
use Rattle.std.proofs.lemmas.Str.{chars-encodes, chars-append, chars-nil, encode_ascii, IsUtf8-append, IsUtf8-nil}
use Rattle.ans_picture_laws.specs.Seen.{Seen}

-- whether each character is ASCII
abbrev pub is_ascii : List ℕ → Bool
is_ascii [] = true
is_ascii (c ∷ cs) = nat_lt c 128 && is_ascii cs

ascii_below : (c : ℕ) → nat_lt c 128 ≡ true → c < 128
ascii_below c h = grind (arith, nat_tests)

-- ASCII is its own UTF-8
ascii_scalars : (cs : List ℕ) → is_ascii cs ≡ true → all_scalars cs ≡ true
ascii_scalars [] h = refl
ascii_scalars (c ∷ cs) h =
    let parts = and_parts (nat_lt c 128) (is_ascii cs) h in
    let small : c < 128 = ascii_below c parts.0 in
    let this : nat_lt c 55296 ≡ true = grind (arith, nat_tests) in
    let later = ascii_scalars cs parts.1 in
    rw (this, later) refl

ascii_encodes : (cs : List ℕ) → is_ascii cs ≡ true → encode_utf8_all cs ≡ cs
ascii_encodes [] h = refl
ascii_encodes (c ∷ cs) h =
    let parts = and_parts (nat_lt c 128) (is_ascii cs) h in
    ap₂ (λ (x y : List ℕ). x ++ y) (encode_ascii c (ascii_below c parts.0)) (ascii_encodes cs parts.1)

-- ASCII with one more character
pub ascii_ended : (end : ℕ) → nat_lt end 128 ≡ true → (cs : List ℕ) → is_ascii cs ≡ true
    → is_ascii (cs ++ end ∷ []) ≡ true
ascii_ended end e [] h = rw e refl
ascii_ended end e (c ∷ cs) h =
    let parts = and_parts (nat_lt c 128) (is_ascii cs) h in
    let this : nat_lt c 128 ≡ true = parts.0 in
    rw this (ascii_ended end e cs parts.1)

-- From one state to another these are seen of the text, whatever is behind it.
pub record Reads {S : Type 0} (read : S → List ℕ → List Seen) (old : S) (text : List ℕ) (seen : List Seen) (new : S)
    : Type 0 where
  pub utf8 : IsUtf8 text
  pub reads : (rest : List ℕ) → read old (chars text ++ rest) ≡ seen ++ read new rest

-- the text of characters
pub reads_characters : {S : Type 0} {read : S → List ℕ → List Seen} {old new : S} {seen : List Seen} (cs : List ℕ)
    → all_scalars cs ≡ true → ((rest : List ℕ) → read old (cs ++ rest) ≡ seen ++ read new rest)
    → Reads read old (encode_utf8_all cs) seen new
reads_characters {S} {read} {old} {new} {seen} cs h f = record {
  utf8 = (cs, (h, refl));
  reads = λ rest. ap (λ (x : List ℕ). read old (x ++ rest)) (chars-encodes cs h) ∙ f rest;
}

-- the same text
pub reads_same : {S : Type 0} {read : S → List ℕ → List Seen} {old new : S} {seen : List Seen} {x y : List ℕ}
    → x ≡ y → Reads read old x seen new → Reads read old y seen new
reads_same {S} {read} {old} {new} {seen} same h = subst (λ (x : List ℕ). Reads read old x seen new) same h

-- a text of ASCII
pub reads_ascii : {S : Type 0} {read : S → List ℕ → List Seen} {old new : S} {seen : List Seen} (cs : List ℕ)
    → is_ascii cs ≡ true → ((rest : List ℕ) → read old (cs ++ rest) ≡ seen ++ read new rest)
    → Reads read old cs seen new
reads_ascii cs h f = reads_same (ascii_encodes cs h) (reads_characters cs (ascii_scalars cs h) f)

-- no text
pub reads_nothing : {S : Type 0} {read : S → List ℕ → List Seen} (old : S) → Reads read old [] [] old
reads_nothing {S} {read} old = record {
  utf8 = IsUtf8-nil;
  reads = λ rest. ap (λ (x : List ℕ). read old (x ++ rest)) chars-nil;
}

-- one text after another
pub reads_then : {S : Type 0} {read : S → List ℕ → List Seen} {old mid new : S} {x y : List ℕ} {a b : List Seen}
    → Reads read old x a mid → Reads read mid y b new → Reads read old (x ++ y) (a ++ b) new
reads_then {S} {read} {old} {mid} {new} {x} {y} {a} {b} p q = record {
  utf8 = IsUtf8-append x y p.utf8 q.utf8;
  reads = λ rest. ap (λ (v : List ℕ). read old (v ++ rest)) (chars-append x y p.utf8)
      ∙ ap (read old) (append_assoc (chars x) (chars y) rest) ∙ p.reads (chars y ++ rest)
      ∙ ap (λ (v : List Seen). a ++ v) (q.reads rest) ∙ sym (append_assoc a b (read new rest));
}

-- a whole text
pub reads_whole : {S : Type 0} {read : S → List ℕ → List Seen} {old new : S} {x : List ℕ} {a : List Seen}
    → Reads read old x a new → read new [] ≡ [] → read old (chars x) ≡ a
reads_whole {S} {read} {old} {new} {x} {a} p ended =
    ap (read old) (sym (append-nil (chars x))) ∙ p.reads [] ∙ ap (λ (v : List Seen). a ++ v) ended ∙ append-nil a

-- From each of some states these are seen of the text, and then the reader is in one of them again.
pub record ReadsOn {S L : Type 0} (read : S → List ℕ → List Seen) (state : L → S) (text : List ℕ) (seen : List Seen)
    : Type 0 where
  pub after : L → L
  pub on : (l : L) → Reads read (state l) text seen (state (after l))

pub reads_on_then : {S L : Type 0} {read : S → List ℕ → List Seen} {state : L → S} {x y : List ℕ} {a b : List Seen}
    → ReadsOn read state x a → ReadsOn read state y b → ReadsOn read state (x ++ y) (a ++ b)
reads_on_then p q = record { after = λ l. q.after (p.after l); on = λ l. reads_then (p.on l) (q.on (p.after l)) }

-- the texts of a list
pub reads_each : {S L A : Type 0} {read : S → List ℕ → List Seen} {state : L → S} (P : A → Type 0) (f : A → List ℕ)
    (g : A → List Seen) (xs : List A) → All P xs → ((x : A) → P x → ReadsOn read state (f x) (g x))
    → ReadsOn read state (flat_map f xs) (flat_map g xs)
reads_each P f g [] all each = record { after = λ l. l; on = λ l. reads_nothing _ }
reads_each P f g (x ∷ xs) all each =
    reads_on_then (each x (All-head P x xs all)) (reads_each P f g xs (All-tail P x xs all) each)
