-- Content determines the text of its tokens, and the fault that ends their reading.
use Rattle.std.proofs.Common.{◌≡◌, inl, inr, ℕ, List, [], ◌∷◌, ◌++◌, length, refl, ap, ap₂, sym, ◌∙◌}
use Rattle.std.proofs.Common.{append_assoc, Option, Some, None}
use Rattle.std.specs.List.{AllZip, concat}
use Rattle.ans_model.specs.Sequence.TokenKind.{TokenKind}
use Rattle.ans_model.specs.declared.fault.Fault.{Fault}
use Rattle.ans_model.specs.Sequence.Reads.{SpellsToken}
use Rattle.ans_model.specs.File.Refusals.{fault_at}
use Rattle.ans_model.specs.Text.TokensText.{token_lines, Leaves, fault_end, TokensText}
use Rattle.ans_model.proofs.Reading.{one_token_in_front, token_nonempty, refused_no_token, refused_nonempty}
use Rattle.ans_model.proofs.Reading.{unfinished_no_token, nothing_not_unfinished}
use Rattle.ans_model.proofs.Refusing.{one_cause_of_refused, unfinished_not_refused}

-- what is left begins with no token
abbrev NoTokenInFront : List ℕ → Type 0
NoTokenInFront left = (t : TokenKind) (a rest : List ℕ) → SpellsToken t a → left ≡ a ++ rest → ⊥

leaves_no_token : (n : ℕ) (left : List ℕ) (f : Option Fault) → Leaves n left f → NoTokenInFront left
leaves_no_token n left None nothing t a rest h e = token_nonempty t a rest h (sym e ∙ nothing)
leaves_no_token n left (Some f) (inl (text, more, cause, whole, refused, is)) t a rest h e =
    refused_no_token t text a more rest cause refused h (sym whole ∙ e)
leaves_no_token n left (Some f) (inr (unfinished, is)) t a rest h e =
    unfinished_no_token t a rest h (rw e at unfinished)

-- two readings with the same bytes, and no token in front of what they leave, are one
record IsOneReading (ts us : List TokenKind) (xs zs : List (List ℕ)) (x y : List ℕ) : Type 0 where
  tokens : ts ≡ us
  texts : xs ≡ zs
  left : x ≡ y

one_reading_and_rest : (ts us : List TokenKind) (xs zs : List (List ℕ)) (x y : List ℕ) → AllZip SpellsToken ts xs
    → AllZip SpellsToken us zs → NoTokenInFront x → NoTokenInFront y → concat xs ++ x ≡ concat zs ++ y
    → IsOneReading ts us xs zs x y
one_reading_and_rest [] [] [] [] x y h g p q e = record { tokens = refl; texts = refl; left = e }
one_reading_and_rest [] [] (a ∷ xs) zs x y h g p q e = absurd h
one_reading_and_rest [] [] [] (b ∷ zs) x y h g p q e = absurd g
one_reading_and_rest [] (u ∷ us) (a ∷ xs) zs x y h g p q e = absurd h
one_reading_and_rest [] (u ∷ us) [] [] x y h g p q e = absurd g
one_reading_and_rest [] (u ∷ us) [] (b ∷ zs) x y h g p q e =
    absurd (p u b (concat zs ++ y) g.0 (e ∙ append_assoc b (concat zs) y))
one_reading_and_rest (t ∷ ts) us [] zs x y h g p q e = absurd h
one_reading_and_rest (t ∷ ts) [] (a ∷ xs) (b ∷ zs) x y h g p q e = absurd g
one_reading_and_rest (t ∷ ts) [] (a ∷ xs) [] x y h g p q e =
    absurd (q t a (concat xs ++ x) h.0 (sym e ∙ append_assoc a (concat xs) x))
one_reading_and_rest (t ∷ ts) (u ∷ us) (a ∷ xs) [] x y h g p q e = absurd g
one_reading_and_rest (t ∷ ts) (u ∷ us) (a ∷ xs) (b ∷ zs) x y h g p q e =
    let s = one_token_in_front t u a b (concat xs ++ x) (concat zs ++ y) h.0 g.0
    (sym (append_assoc a (concat xs) x) ∙ e ∙ append_assoc b (concat zs) y) in
    let more = one_reading_and_rest ts us xs zs x y h.1 g.1 p q s.2 in
    record {
      tokens = ap₂ (λ (v : TokenKind) (w : List TokenKind). v ∷ w) s.0 more.tokens;
      texts = ap₂ (λ (v : List ℕ) (w : List (List ℕ)). v ∷ w) s.1 more.texts;
      left = more.left;
    }

-- what is left determines the fault
one_fault : (n : ℕ) (left : List ℕ) (f g : Option Fault) → Leaves n left f → Leaves n left g → f ≡ g
one_fault n left None None h k = refl
one_fault n left None (Some g) h (inl (text, rest, cause, whole, refused, is)) =
    absurd (refused_nonempty text rest cause refused (sym whole ∙ h))
one_fault n left None (Some g) h (inr (unfinished, is)) = absurd (nothing_not_unfinished left h unfinished)
one_fault n left (Some f) None (inl (text, rest, cause, whole, refused, is)) k =
    absurd (refused_nonempty text rest cause refused (sym whole ∙ k))
one_fault n left (Some f) None (inr (unfinished, is)) k = absurd (nothing_not_unfinished left k unfinished)
one_fault n left (Some f) (Some g) (inl (text, rest, c, whole, h, is)) (inl (other, more, d, same, k, also)) =
    let cause : c ≡ d = one_cause_of_refused text other rest more c d h k (sym whole ∙ same) in
    ap (λ (v : Fault). Some v) (is ∙ ap (fault_at n) cause ∙ sym also)
one_fault n left (Some f) (Some g) (inl (text, rest, c, whole, h, is)) (inr (unfinished, also)) =
    absurd (unfinished_not_refused left text rest c unfinished h whole)
one_fault n left (Some f) (Some g) (inr (unfinished, is)) (inl (text, rest, c, whole, h, also)) =
    absurd (unfinished_not_refused left text rest c unfinished h whole)
one_fault n left (Some f) (Some g) (inr (unfinished, is)) (inr (also_unfinished, also)) =
    ap (λ (v : Fault). Some v) (is ∙ sym also)

module _ (content text other : List ℕ) (f g : Option Fault) (h : TokensText content f text)
    (k : TokensText content g other) where
  same_reading : IsOneReading h.tokens k.tokens h.texts k.texts h.left k.left
  same_reading = one_reading_and_rest h.tokens k.tokens h.texts k.texts h.left k.left h.reads.each k.reads.each
      (leaves_no_token (length h.front) h.left f h.leaves) (leaves_no_token (length k.front) k.left g k.leaves)
      (ap (λ (v : List ℕ). v ++ h.left) (sym h.reads.whole) ∙ sym h.whole ∙ k.whole
      ∙ ap (λ (v : List ℕ). v ++ k.left) k.reads.whole)

  same_front : h.front ≡ k.front
  same_front = h.reads.whole ∙ ap concat same_reading.texts ∙ sym k.reads.whole

  pub one_fault_of_tokens : f ≡ g
  one_fault_of_tokens = one_fault (length k.front) k.left f g (rw (same_front, same_reading.left) at h.leaves) k.leaves

  pub one_text_of_tokens : text ≡ other
  one_text_of_tokens = h.text_is
      ∙ ap₂ (λ (ts : List TokenKind) (xs : List (List ℕ)). token_lines 0 ts xs ++ fault_end f)
      same_reading.tokens same_reading.texts
      ∙ ap (λ (o : Option Fault). token_lines 0 k.tokens k.texts ++ fault_end o) one_fault_of_tokens
      ∙ sym k.text_is
