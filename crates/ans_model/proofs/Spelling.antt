-- No spelling begins another, and none is of two sequences.
use Rattle.std.proofs.lemmas.Bool.{and_parts}
use Rattle.std.proofs.Common.{◌≡◌, ◌≢◌, ℕ, Bool, true, false, not, ◌==◌, List, [], ◌∷◌, ◌++◌, refl, ap}
use Rattle.std.proofs.Common.{ap₂, sym, ◌∙◌, subst, arith, append_assoc}
use Rattle.std.proofs.lemmas.Bool.Decides.{nat_tests}
use Rattle.std.proofs.lemmas.List.{append_cancel_right}
use Rattle.std.specs.List.{AllZip, join_with_byte, list_all}
use Rattle.std.specs.Char.{is_ascii_digit, is_ascii_alphabetic}
use Rattle.std.specs.Str.Parse.{digits_value}
use Rattle.ans_model.specs.Bytes.{escape, bracket, semicolon}
use Rattle.ans_model.specs.Inside.OpenPart.{is_stop}
use Rattle.ans_model.specs.Sequence.Spelling.{is_mark_byte, Member, Omitted, Number, Quoted, Raw}
use Rattle.ans_model.specs.declared.mark.Mark.{Mark}
use Rattle.ans_model.specs.declared.mark.Mark.TheVariants.{Unmarked, Equals, Question}
use Rattle.ans_model.specs.Sequence.Spelling.{mark_bytes, is_quote, SpellsMember, Loose}

pub head_of : {A : Type 0} {a b : A} {x y : List A} → a ∷ x ≡ b ∷ y → a ≡ b
head_of e = cc

pub tail_of : {A : Type 0} {a b : A} {x y : List A} → a ∷ x ≡ b ∷ y → x ≡ y
tail_of e = cc

-- two runs of what passes a test, each before what fails it, at the front of one list
pub one_run_before_stop : (p : ℕ → Bool) (a b : List ℕ) (c d : ℕ) (x y : List ℕ) → list_all p a ≡ true
    → list_all p b ≡ true
    → p c ≡ false → p d ≡ false → a ++ c ∷ x ≡ b ++ d ∷ y
    → (a ≡ b) × (c ≡ d) × (x ≡ y)
one_run_before_stop p [] [] c d x y ha hb hc hd e = (refl, head_of e, tail_of e)
one_run_before_stop p [] (v ∷ b) c d x y ha hb hc hd e =
    let t : p v ≡ true = (and_parts (p v) (list_all p b) hb).0 in
    let f : p v ≡ false = ap p (sym (head_of e)) ∙ hc in
    (cc, cc, cc)
one_run_before_stop p (u ∷ a) [] c d x y ha hb hc hd e =
    let t : p u ≡ true = (and_parts (p u) (list_all p a) ha).0 in
    let f : p u ≡ false = ap p (head_of e) ∙ hd in
    (cc, cc, cc)
one_run_before_stop p (u ∷ a) (v ∷ b) c d x y ha hb hc hd e =
    let h = one_run_before_stop p a b c d x y (and_parts (p u) (list_all p a) ha).1
    (and_parts (p v) (list_all p b) hb).1 hc hd (tail_of e) in
    let same : u ≡ v = head_of e in
    let front : a ≡ b = h.0 in
    (cc, h.1, h.2)

pub stop_no_digit : (c : ℕ) → is_stop c ≡ true → is_ascii_digit c ≡ false
stop_no_digit c h = grind (arith, nat_tests)

pub stop_no_quote : (c : ℕ) → is_stop c ≡ true → is_quote c ≡ false
stop_no_quote c h = grind (arith, nat_tests)

pub quote_no_digit : (c : ℕ) → is_quote c ≡ true → is_ascii_digit c ≡ false
quote_no_digit c h = grind (arith, nat_tests)

pub letter_no_semicolon : (c : ℕ) → is_ascii_alphabetic c ≡ true → c ≡ semicolon → ⊥
letter_no_semicolon c h e = grind (arith, nat_tests)

-- which byte a member and what follows it begin with
abbrev pub begins : Member → ℕ → Bool
begins Omitted = is_stop
begins (Number n) = is_ascii_digit
begins (Quoted q text) = is_quote

abbrev pub first_or : ℕ → List ℕ → ℕ
first_or d [] = d
first_or d (b ∷ bs) = b

-- a member, or what follows it where it is omitted, begins with a byte of its sort
pub first_byte : (m : Member) (a : List ℕ) (c : ℕ) (x : List ℕ) → SpellsMember m a → is_stop c ≡ true
    → begins m (first_or 0 (a ++ c ∷ x)) ≡ true
first_byte Omitted a c x h s = rw h s
first_byte (Number n) [] c x h s = absurd (omega (arith, h.0))
first_byte (Number n) (v ∷ b) c x h s = (and_parts (is_ascii_digit v) (list_all is_ascii_digit b) h.1).0
first_byte (Quoted q text) a c x h s = rw h.2 h.0

-- no byte begins members of two sorts
quote_self : (q : ℕ) → not (q == q) ≡ false
quote_self q = grind (arith, nat_tests)

-- equal texts do not begin with bytes of two sorts that exclude each other
pub no_common_first_byte : (p q : ℕ → Bool) → ((c : ℕ) → p c ≡ true → q c ≡ false) → (x y : List ℕ) → x ≡ y
    → p (first_or 0 x) ≡ true
    → q (first_or 0 y) ≡ true → ⊥
no_common_first_byte p q apart x y e hp hq =
    let f : q (first_or 0 x) ≡ false = apart (first_or 0 x) hp in
    let t : q (first_or 0 x) ≡ true = rw e hq in
    cc

-- two quoted texts at the front of one list are the same, whatever follows them
pub one_quoted_text : (r q : ℕ) (words text a b x y : List ℕ) → SpellsMember (Quoted r words) a
    → SpellsMember (Quoted q text) b → a ++ x ≡ b ++ y → (r ≡ q) × (words ≡ text) × (a ≡ b) × (x ≡ y)
one_quoted_text r q words text a b x y ha hb e =
    let left : a ++ x ≡ r ∷ (words ++ r ∷ x) = ap (λ (v : List ℕ). v ++ x) ha.2
    ∙ ap (λ (v : List ℕ). r ∷ v) (append_assoc words (r ∷ []) x) in
    let right : b ++ y ≡ q ∷ (text ++ q ∷ y) = ap (λ (v : List ℕ). v ++ y) hb.2
    ∙ ap (λ (v : List ℕ). q ∷ v) (append_assoc text (q ∷ []) y) in
    let t : r ∷ (words ++ r ∷ x) ≡ q ∷ (text ++ q ∷ y) = sym left ∙ e ∙ right in
    let same : q ≡ r = sym (head_of t) in
    let inside : list_all (λ u. not (u == r)) text ≡ true = subst
    (λ (v : ℕ). list_all (λ u. not (u == v)) text ≡ true) same hb.1 in
    let other : not (q == r) ≡ false = rw same (quote_self r) in
    let h = one_run_before_stop (λ u. not (u == r)) words text r q x y ha.1 inside (quote_self r) other (tail_of t) in
    let texts : words ≡ text = h.0 in
    let insides : r ∷ (words ++ r ∷ []) ≡ q ∷ (text ++ q ∷ []) = cc in
    (sym same, texts, ha.2 ∙ insides ∙ sym hb.2, h.2)

-- Two members at the front of one list, each with what may follow it, are the same.
pub one_member_in_front : (m n : Member) (a b : List ℕ) (c d : ℕ) (x y : List ℕ) → SpellsMember m a → SpellsMember n b
    → is_stop c ≡ true → is_stop d ≡ true → a ++ c ∷ x ≡ b ++ d ∷ y
    → (m ≡ n) × (a ≡ b) × (c ≡ d) × (x ≡ y)
one_member_in_front Omitted Omitted a b c d x y ha hb hc hd e =
    let t : c ∷ x ≡ d ∷ y = sym (ap (λ (v : List ℕ). v ++ c ∷ x) ha) ∙ e ∙ ap (λ (v : List ℕ). v ++ d ∷ y) hb in
    (refl, ha ∙ sym hb, head_of t, tail_of t)
one_member_in_front Omitted (Number k) a b c d x y ha hb hc hd e =
    absurd (no_common_first_byte is_stop is_ascii_digit stop_no_digit _ _ e (first_byte Omitted a c x ha hc)
    (first_byte (Number k) b d y hb hd))
one_member_in_front Omitted (Quoted q text) a b c d x y ha hb hc hd e =
    absurd (no_common_first_byte is_stop is_quote stop_no_quote _ _ e (first_byte Omitted a c x ha hc)
    (first_byte (Quoted q text) b d y hb hd))
one_member_in_front (Number j) Omitted a b c d x y ha hb hc hd e =
    absurd (no_common_first_byte is_stop is_ascii_digit stop_no_digit _ _ (sym e) (first_byte Omitted b d y hb hd)
    (first_byte (Number j) a c x ha hc))
one_member_in_front (Number j) (Number k) a b c d x y ha hb hc hd e =
    let h = one_run_before_stop is_ascii_digit a b c d x y ha.1 hb.1 (stop_no_digit c hc) (stop_no_digit d hd) e in
    let v : j ≡ k = sym ha.2 ∙ ap (digits_value 10) h.0 ∙ hb.2 in
    (ap Number v, h.0, h.1, h.2)
one_member_in_front (Number j) (Quoted q text) a b c d x y ha hb hc hd e =
    absurd (no_common_first_byte is_quote is_ascii_digit quote_no_digit _ _ (sym e)
    (first_byte (Quoted q text) b d y hb hd)
    (first_byte (Number j) a c x ha hc))
one_member_in_front (Quoted r words) Omitted a b c d x y ha hb hc hd e =
    absurd (no_common_first_byte is_stop is_quote stop_no_quote _ _ (sym e) (first_byte Omitted b d y hb hd)
    (first_byte (Quoted r words) a c x ha hc))
one_member_in_front (Quoted r words) (Number k) a b c d x y ha hb hc hd e =
    absurd (no_common_first_byte is_quote is_ascii_digit quote_no_digit _ _ e (first_byte (Quoted r words) a c x ha hc)
    (first_byte (Number k) b d y hb hd))
one_member_in_front (Quoted r words) (Quoted q text) a b c d x y ha hb hc hd e =
    let h = one_quoted_text r q words text a b (c ∷ x) (d ∷ y) ha hb e in
    (ap₂ Quoted h.0 h.1, h.2, head_of h.3, tail_of h.3)

pub letter_stops : (c : ℕ) → is_ascii_alphabetic c ≡ true → is_stop c ≡ true
letter_stops c h = grind (arith, nat_tests)

pub semicolon_stops : is_stop semicolon ≡ true
semicolon_stops = refl

-- The bytes begin with a member, then more members, each after a `;`, then the letter, and then x.
abbrev pub Rest : Member → List Member → ℕ → List ℕ → List ℕ → Type 0
Rest m [] letter x bytes = (text : List ℕ) × SpellsMember m text × (bytes ≡ text ++ letter ∷ x)
Rest m (n ∷ ms) letter x bytes = (text more : List ℕ) × SpellsMember m text × Rest n ms letter x more
    × (bytes ≡ text ++ semicolon ∷ more)

-- the texts of one member or more, joined, are such bytes
pub joined_rest : (m : Member) (ms : List Member) (t : List ℕ) (ts : List (List ℕ)) (letter : ℕ) (x : List ℕ)
    → AllZip SpellsMember (m ∷ ms) (t ∷ ts) → Rest m ms letter x (join_with_byte semicolon (t ∷ ts) ++ letter ∷ x)
joined_rest m [] t [] letter x h = (t, h.0, refl)
joined_rest m [] t (u ∷ us) letter x h = absurd h.1
joined_rest m (n ∷ ms) t [] letter x h = absurd h.1
joined_rest m (n ∷ ms) t (u ∷ us) letter x h = (
  t,
  join_with_byte semicolon (u ∷ us) ++ letter ∷ x,
  h.0,
  joined_rest n ms u us letter x h.1,
  append_assoc t (semicolon ∷ join_with_byte semicolon (u ∷ us)) (letter ∷ x),
)

-- members, the letter and what follows are determined by the bytes
pub one_list_of_members : (m n : Member) (ms ns : List Member) (l k : ℕ) (x y bytes : List ℕ)
    → is_ascii_alphabetic l ≡ true
    → is_ascii_alphabetic k ≡ true → Rest m ms l x bytes → Rest n ns k y bytes
    → (m ∷ ms ≡ n ∷ ns) × (l ≡ k) × (x ≡ y)
one_list_of_members m n [] [] l k x y bytes hl hk h g =
    let e = one_member_in_front m n h.0 g.0 l k x y h.1 g.1 (letter_stops l hl) (letter_stops k hk) (sym h.2 ∙ g.2) in
    (ap (λ (v : Member). v ∷ []) e.0, e.2, e.3)
one_list_of_members m n [] (n' ∷ ns) l k x y bytes hl hk h g =
    let e = one_member_in_front m n h.0 g.0 l semicolon x g.1 h.1 g.2 (letter_stops l hl) semicolon_stops
    (sym h.2 ∙ g.4) in
    absurd (letter_no_semicolon l hl e.2)
one_list_of_members m n (m' ∷ ms) [] l k x y bytes hl hk h g =
    let e = one_member_in_front m n h.0 g.0 semicolon k h.1 y h.2 g.1 semicolon_stops (letter_stops k hk)
    (sym h.4 ∙ g.2) in
    absurd (letter_no_semicolon k hk (sym e.2))
one_list_of_members m n (m' ∷ ms) (n' ∷ ns) l k x y bytes hl hk h g =
    let e = one_member_in_front m n h.0 g.0 semicolon semicolon h.1 g.1 h.2 g.2 semicolon_stops semicolon_stops
    (sym h.4 ∙ g.4) in
    let ih = one_list_of_members m' n' ms ns l k x y h.1 hl hk h.3 (rw (← e.3) at g.3) in
    (ap₂ (λ (u : Member) (v : List Member). u ∷ v) e.0 ih.0, ih.1, ih.2)

-- The bytes after ESC, `[` and the mark: the letter alone, or members and the letter; and then x.
abbrev pub Tail : List Member → ℕ → List ℕ → List ℕ → Type 0
Tail [] letter x bytes = bytes ≡ letter ∷ x
Tail (m ∷ ms) letter x bytes = (m ∷ ms ≢ Omitted ∷ []) × Rest m ms letter x bytes

-- joined texts and a letter are such bytes
joined_tail : (ms : List Member) (ts : List (List ℕ)) (letter : ℕ) (x : List ℕ) → AllZip SpellsMember ms ts
    → ms ≢ Omitted ∷ [] → Tail ms letter x (join_with_byte semicolon ts ++ letter ∷ x)
joined_tail [] [] letter x h n = refl
joined_tail [] (t ∷ ts) letter x h n = absurd h
joined_tail (m ∷ ms) [] letter x h n = absurd h
joined_tail (m ∷ ms) (t ∷ ts) letter x h n = (n, joined_rest m ms t ts letter x h)

-- a letter alone is no list of members
letter_alone : (m : Member) (ms : List Member) (l k : ℕ) (x y : List ℕ) → is_ascii_alphabetic l ≡ true
    → is_ascii_alphabetic k ≡ true → m ∷ ms ≢ Omitted ∷ [] → Rest m ms l x (k ∷ y) → ⊥
letter_alone m [] l k x y hl hk n h =
    let e = one_member_in_front m Omitted h.0 [] l k x y h.1 refl (letter_stops l hl) (letter_stops k hk) (sym h.2) in
    n (ap (λ (v : Member). v ∷ []) e.0)
letter_alone m (m' ∷ ms) l k x y hl hk n h =
    let e = one_member_in_front m Omitted h.0 [] semicolon k h.1 y h.2 refl semicolon_stops (letter_stops k hk)
    (sym h.4) in
    letter_no_semicolon k hk (sym e.2)

-- members, letter and what follows are determined by such bytes
pub one_tail_in_front : (ms ns : List Member) (l k : ℕ) (x y bytes : List ℕ) → is_ascii_alphabetic l ≡ true
    → is_ascii_alphabetic k ≡ true → Tail ms l x bytes → Tail ns k y bytes
    → (ms ≡ ns) × (l ≡ k) × (x ≡ y)
one_tail_in_front [] [] l k x y bytes hl hk h g = (refl, head_of (sym h ∙ g), tail_of (sym h ∙ g))
one_tail_in_front [] (n ∷ ns) l k x y bytes hl hk h g = absurd (letter_alone n ns k l y x hk hl g.0 (rw h at g.1))
one_tail_in_front (m ∷ ms) [] l k x y bytes hl hk h g = absurd (letter_alone m ms l k x y hl hk h.0 (rw g at h.1))
one_tail_in_front (m ∷ ms) (n ∷ ns) l k x y bytes hl hk h g = one_list_of_members m n ms ns l k x y bytes hl hk h.1 g.1

stop_no_mark : (c : ℕ) → is_stop c ≡ true → is_mark_byte c ≡ false
stop_no_mark c h = grind (arith, nat_tests)

pub digit_no_mark : (c : ℕ) → is_ascii_digit c ≡ true → is_mark_byte c ≡ false
digit_no_mark c h = grind (arith, nat_tests)

pub quote_no_mark : (c : ℕ) → is_quote c ≡ true → is_mark_byte c ≡ false
quote_no_mark c h = grind (arith, nat_tests)

pub begins_no_mark : (m : Member) (c : ℕ) → begins m c ≡ true → is_mark_byte c ≡ false
begins_no_mark Omitted c h = stop_no_mark c h
begins_no_mark (Number n) c h = digit_no_mark c h
begins_no_mark (Quoted q text) c h = quote_no_mark c h

-- members begin with a byte that the first of them begins with
pub rest_first : (m : Member) (ms : List Member) (l : ℕ) (x bytes : List ℕ) → is_ascii_alphabetic l ≡ true
    → Rest m ms l x bytes → begins m (first_or 0 bytes) ≡ true
rest_first m [] l x bytes hl h = rw h.2 (first_byte m h.0 l x h.1 (letter_stops l hl))
rest_first m (n ∷ ms) l x bytes hl h = rw h.4 (first_byte m h.0 semicolon h.1 h.2 semicolon_stops)

-- no mark stands where the members or the letter begin
pub tail_first : (ms : List Member) (l : ℕ) (x bytes : List ℕ) → is_ascii_alphabetic l ≡ true → Tail ms l x bytes
    → is_mark_byte (first_or 0 bytes) ≡ false
tail_first [] l x bytes hl h = rw h (stop_no_mark l (letter_stops l hl))
tail_first (m ∷ ms) l x bytes hl h = begins_no_mark m (first_or 0 bytes) (rest_first m ms l x bytes hl h.1)

-- a mark is not the first byte of bytes that begin with none
mark_clash : (c : ℕ) (y : List ℕ) (z : List ℕ) → is_mark_byte c ≡ true → is_mark_byte (first_or 0 z) ≡ false
    → c ∷ y ≡ z → ⊥
mark_clash c y z h f e =
    let t : is_mark_byte (first_or 0 z) ≡ true = rw (← e) h in
    cc

marks_apart : ◌≡◌ {A = ℕ} 0x3D 0x3F → ⊥
marks_apart e = omega arith

-- the mark and what follows it are determined by the bytes
pub one_mark_in_front : (m n : Mark) (z w : List ℕ) → is_mark_byte (first_or 0 z) ≡ false
    → (n ≡ Unmarked → is_mark_byte (first_or 0 w) ≡ false) → mark_bytes m ++ z ≡ mark_bytes n ++ w → (m ≡ n) × (z ≡ w)
one_mark_in_front Unmarked Unmarked z w hz hw e = (refl, e)
one_mark_in_front Unmarked Equals z w hz hw e = absurd (mark_clash 0x3D w z refl hz (sym e))
one_mark_in_front Unmarked Question z w hz hw e = absurd (mark_clash 0x3F w z refl hz (sym e))
one_mark_in_front Equals Unmarked z w hz hw e = absurd (mark_clash 0x3D z w refl (hw refl) e)
one_mark_in_front Equals Equals z w hz hw e = (refl, tail_of e)
one_mark_in_front Equals Question z w hz hw e = absurd (marks_apart (head_of e))
one_mark_in_front Question Unmarked z w hz hw e = absurd (mark_clash 0x3F z w refl (hw refl) e)
one_mark_in_front Question Equals z w hz hw e = absurd (marks_apart (sym (head_of e)))
one_mark_in_front Question Question z w hz hw e = (refl, tail_of e)

-- a loose spelling before x, by its parts: ESC, `[`, the mark, and a tail
pub record InFront (raw : Raw) (x bytes : List ℕ) : Type 0 where
  pub letter : is_ascii_alphabetic raw.letter ≡ true
  pub tail : List ℕ
  pub tail_is : Tail raw.members raw.letter x tail
  pub whole : bytes ≡ escape ∷ bracket ∷ (mark_bytes raw.mark ++ tail)

-- what a loose spelling at the front of bytes is made of
pub in_front : (raw : Raw) (a x : List ℕ) → Loose raw a → InFront raw x (a ++ x)
in_front raw a x h = record {
  letter = h.letter;
  tail = join_with_byte semicolon h.texts ++ raw.letter ∷ x;
  tail_is = joined_tail raw.members h.texts raw.letter x h.members h.not_one_omitted;
  whole = ap (λ (v : List ℕ). v ++ x) h.whole
      ∙ ap (λ (v : List ℕ). escape ∷ bracket ∷ v)
      (append_assoc (mark_bytes raw.mark) (join_with_byte semicolon h.texts ++ raw.letter ∷ []) x
      ∙ ap (λ (v : List ℕ). mark_bytes raw.mark ++ v)
      (append_assoc (join_with_byte semicolon h.texts) (raw.letter ∷ []) x));
}

-- sequences of equal parts are equal
raw_path : (r s : Raw) → r.mark ≡ s.mark → r.members ≡ s.members → r.letter ≡ s.letter → r ≡ s
raw_path r s m n l = λ i. record { mark = m i; members = n i; letter = l i }

-- what spells a sequence in front of x determines the sequence and x
pub in_front_law : (r s : Raw) (x y bytes : List ℕ) → InFront r x bytes → InFront s y bytes → (r ≡ s) × (x ≡ y)
in_front_law r s x y bytes h g =
    let e = sym h.whole ∙ g.whole in
    let m = one_mark_in_front r.mark s.mark h.tail g.tail (tail_first r.members r.letter x h.tail h.letter h.tail_is)
    (λ _. tail_first s.members s.letter y g.tail g.letter g.tail_is) (tail_of (tail_of e)) in
    let t = one_tail_in_front r.members s.members r.letter s.letter x y h.tail h.letter g.letter h.tail_is
    (rw (← m.1) at g.tail_is) in
    (raw_path r s m.0 t.0 t.1, t.2)

-- two spellings at the front of one list of bytes are one spelling of one sequence
pub one_spelling_in_front : (r s : Raw) (a b x y : List ℕ) → Loose r a → Loose s b → a ++ x ≡ b ++ y
    → (r ≡ s) × (a ≡ b) × (x ≡ y)
one_spelling_in_front r s a b x y h g e =
    let t = in_front_law r s x y (a ++ x) (in_front r a x h) (rw (← e) at (in_front s b y g)) in
    let same : x ≡ y = t.1 in
    (t.0, append_cancel_right a b x (e ∙ ap (λ (v : List ℕ). b ++ v) (sym same)), same)
