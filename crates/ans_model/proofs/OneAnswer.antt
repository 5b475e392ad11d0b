-- Of good, a first fault and a last fault bytes have one at most, and each of them once.
use Rattle.std.proofs.Common.{◌≡◌, ◌⊎◌, inl, inr, ℕ, ◌+◌, ◌<◌, List, [], ◌∷◌, ◌++◌, length, take, refl, ap, ap₂, sym}
use Rattle.std.proofs.Common.{◌∙◌, subst, arith, append_assoc, Some}
use Rattle.std.specs.Prelude.{slice_get}
use Rattle.std.proofs.lemmas.List.{append_cancel_right, append-nil}
use Rattle.std.proofs.Math.Seq.{take-append_seam}
use Rattle.std.proofs.lemmas.Bool.{cases_lt, cases_eq}
use Rattle.std.specs.List.{AllZip, concat}
use Rattle.ans_model.specs.Sequence.TokenKind.{TokenKind, Glyph, LineFeed, EraseLine, Tab}
use Rattle.ans_model.specs.declared.fault.Fault.{Fault}
use Rattle.ans_model.specs.declared.fault.Cause.{Cause}
use Rattle.ans_model.specs.declared.fault.Cause.TheVariants.{EndInSequence, PrintBelow, Scrolls, PrintUnknownPlace}
use Rattle.ans_model.specs.declared.fault.Cause.TheVariants.{EraseUnknownPlace, MayScroll, UnknownCell}
use Rattle.ans_model.specs.declared.cell.Position.{Position}
use Rattle.ans_model.specs.Verdict.Certain.{IsCertain}
use Rattle.ans_model.specs.Sequence.Spelling.{IsUnfinished}
use Rattle.ans_model.specs.Sequence.Reads.{SpellsToken, Reads}
use Rattle.ans_model.specs.File.Refusals.{fault_at}
use Rattle.ans_model.specs.Screen.State.{Size, State, IsStated, cell_at}
use Rattle.ans_model.specs.Screen.StartClass.{all_known, low_start}
use Rattle.ans_model.specs.declared.start.Start.{Start}
use Rattle.ans_model.specs.Screen.Step.{final}
use Rattle.ans_model.specs.Verdict.TokenFault.{HasFault, HasPrintFault, HasFaultAfter, IsClean, then_blanks}
use Rattle.ans_model.specs.Verdict.FirstFault.{IsWhy, IsRefused, IsToBlame, IsFirstFault}
use Rattle.ans_model.specs.Verdict.LastFault.{CellsDiffer, SameCell, IsBefore, IsFirstUnknown, EndsInSequence}
use Rattle.ans_model.specs.Verdict.LastFault.{LeavesUnknown, IsLastFault}
use Rattle.ans_model.specs.Verdict.Good.{Picture, Shows, PrintsWell, PlaysWell, GoodWith, IsGood}
use Rattle.ans_model.proofs.Reading.{one_token_in_front, token_nonempty, refused_no_token, refused_nonempty}
use Rattle.ans_model.proofs.Reading.{one_reading, nothing_not_unfinished}
use Rattle.ans_model.proofs.Reading.{unfinished_no_token, means_well, meaning_certain}
use Rattle.ans_model.proofs.Refusing.{one_cause_of_refused, unfinished_not_refused}
use Rattle.ans_model.proofs.PositionLemmas.{same_position}
use Rattle.ans_model.proofs.OneCause.{one_cause, certain_cause, cleared_is_one}
use Rattle.ans_model.proofs.StartLemmas.{low_is_start}

-- ---- two readings of fronts of one list
-- the tokens of the longer of two readings begin with those of the other
abbrev Longer : List TokenKind → List TokenKind → List ℕ → List ℕ → Type 0
Longer ts us x y = (more : List TokenKind) × (texts : List (List ℕ)) × AllZip SpellsToken more texts
    × (us ≡ ts ++ more) × (x ≡ concat texts ++ y)

-- of two readings of one front, one goes on with the other
readings_split : (ts us : List TokenKind) (xs zs : List (List ℕ)) (x y : List ℕ) → AllZip SpellsToken ts xs
    → AllZip SpellsToken us zs → concat xs ++ x ≡ concat zs ++ y → Longer ts us x y ⊎ Longer us ts y x
readings_split [] us [] zs x y h g e = inl (us, zs, g, refl, e)
readings_split [] us (a ∷ xs) zs x y h g e = absurd h
readings_split (t ∷ ts) [] xs [] x y h g e = inr (t ∷ ts, xs, h, refl, sym e)
readings_split (t ∷ ts) [] xs (b ∷ zs) x y h g e = absurd g
readings_split (t ∷ ts) (u ∷ us) [] zs x y h g e = absurd h
readings_split (t ∷ ts) (u ∷ us) (a ∷ xs) [] x y h g e = absurd g
readings_split (t ∷ ts) (u ∷ us) (a ∷ xs) (b ∷ zs) x y h g e =
    let s = one_token_in_front t u a b (concat xs ++ x) (concat zs ++ y) h.0 g.0
    (sym (append_assoc a (concat xs) x) ∙ e ∙ append_assoc b (concat zs) y) in
    elim (readings_split ts us xs zs x y h.1 g.1 s.2) [
      | inl w ↦ inl (w.0, w.1, w.2, ap₂ (λ (v : TokenKind) (l : List TokenKind). v ∷ l) (sym s.0) w.3, w.4)
      | inr w ↦ inr (w.0, w.1, w.2, ap₂ (λ (v : TokenKind) (l : List TokenKind). v ∷ l) s.0 w.3, w.4)
    ]

-- bytes are a front that is read as tokens, and what is left
record ReadsWith (bytes : List ℕ) (tokens : List TokenKind) (left : List ℕ) : Type 0 where
  front : List ℕ
  reads : Reads front tokens
  whole : bytes ≡ front ++ left

-- the same of readings with what is left
reads_split : (bytes : List ℕ) (ts us : List TokenKind) (x y : List ℕ) → ReadsWith bytes ts x → ReadsWith bytes us y
    → Longer ts us x y ⊎ Longer us ts y x
reads_split bytes ts us x y h g =
    let left : bytes ≡ concat h.reads.0 ++ x = h.whole ∙ ap (λ (v : List ℕ). v ++ x) h.reads.1.whole in
    let right : bytes ≡ concat g.reads.0 ++ y = g.whole ∙ ap (λ (v : List ℕ). v ++ y) g.reads.1.whole in
    readings_split ts us h.reads.0 g.reads.0 x y h.reads.1.each g.reads.1.each (sym left ∙ right)

-- after the same front the same is left
same_front : (bytes : List ℕ) (ts us : List TokenKind) (x y : List ℕ) (h : ReadsWith bytes ts x)
    (g : ReadsWith bytes us y) → x ≡ y → h.front ≡ g.front
same_front bytes ts us x y h g e = append_cancel_right h.front g.front y
    (ap (λ (v : List ℕ). h.front ++ v) (sym e) ∙ sym h.whole ∙ g.whole)

-- ---- what stands at an end: nothing, or an unfinished sequence
abbrev IsEnd : List ℕ → Type 0
IsEnd text = (text ≡ []) ⊎ IsUnfinished text

-- no token begins an end
end_no_token : (t : TokenKind) (a x y : List ℕ) → SpellsToken t a → IsEnd x → x ≡ a ++ y → ⊥
end_no_token t a x y h (inl nil) e = token_nonempty t a y h (sym e ∙ nil)
end_no_token t a x y h (inr o) e = unfinished_no_token t a y h (rw e at o)

-- no refused text begins an end
end_not_refused : (text x y : List ℕ) (c : Cause) → IsRefused text c → IsEnd x → x ≡ text ++ y → ⊥
end_not_refused text x y c h (inl nil) e = refused_nonempty text y c h (sym e ∙ nil)
end_not_refused text x y c h (inr o) e = unfinished_not_refused x text y c o h e

pub same_fault : (f g : Fault) → f.offset ≡ g.offset → f.cause ≡ g.cause → f ≡ g
same_fault f g o c = λ i. record { offset = o i; cause = c i }

-- ---- what is clean does not go on over a fault
module _ (z : Size) (class : Start) where
  get_seam : (ts : List TokenKind) (t : TokenKind) (us : List TokenKind) → slice_get (ts ++ t ∷ us) (length ts) ≡ Some t
  get_seam [] t us = refl
  get_seam (s ∷ ts) t us = get_seam ts t us

  clean_no_fault : (ts : List TokenKind) (t : TokenKind) (us : List TokenKind) (c : Cause)
      → IsClean z class (ts ++ t ∷ us) → HasFault z class ts t c → ⊥
  clean_no_fault ts t us c clean h =
      clean (length ts) c (
        t,
        get_seam ts t us,
        subst (λ (played : List TokenKind). HasFault z class played t c)
            (sym (take-append_seam ts (t ∷ us))) h,
      )

  -- a text that is to blame or refused, after these tokens
  abbrev Faulty : List TokenKind → List ℕ → Cause → Type 0
  Faulty ts text c = IsToBlame z class ts text c ⊎ IsRefused text c

  faulty_law : (ts : List TokenKind) (text other x y : List ℕ) (c d : Cause) → Faulty ts text c → Faulty ts other d
      → text ++ x ≡ other ++ y → c ≡ d
  faulty_law ts text other x y c d (inl h) (inl g) e =
      let s = one_token_in_front h.token g.token text other x y h.spelled g.spelled e in
      one_cause z class ts h.token c d h.fault (subst (λ (t : TokenKind). HasFault z class ts t d) (sym s.0) g.fault)
  faulty_law ts text other x y c d (inl h) (inr g) e = absurd
      (refused_no_token h.token other text y x d g h.spelled (sym e))
  faulty_law ts text other x y c d (inr h) (inl g) e = absurd (refused_no_token g.token text other x y c h g.spelled e)
  faulty_law ts text other x y c d (inr h) (inr g) e = one_cause_of_refused text other x y c d h g e

  faulty_ends : (ts : List TokenKind) (t : TokenKind) (us : List TokenKind) (text a x y : List ℕ) (c : Cause)
      → IsClean z class (ts ++ t ∷ us) → SpellsToken t a → Faulty ts text c → text ++ x ≡ a ++ y → ⊥
  faulty_ends ts t us text a x y c clean g (inl h) e =
      let s = one_token_in_front h.token t text a x y h.spelled g e in
      clean_no_fault ts t us c clean (subst (λ (u : TokenKind). HasFault z class ts u c) s.0 h.fault)
  faulty_ends ts t us text a x y c clean g (inr h) e = refused_no_token t text a x y c h g e

  end_not_faulty : (ts : List TokenKind) (text x y : List ℕ) (c : Cause) → Faulty ts text c → IsEnd x → x ≡ text ++ y
      → ⊥
  end_not_faulty ts text x y c (inl h) end e = end_no_token h.token text x y h.spelled end e
  end_not_faulty ts text x y c (inr h) end e = end_not_refused text x y c h end e

  abbrev first_reads : (bytes : List ℕ) (f : Fault) (h : IsFirstFault z class bytes f)
      → ReadsWith bytes h.tokens (h.text ++ h.rest)
  first_reads bytes f h = record { front = h.front; reads = h.reads; whole = h.whole }

  -- the first of two first faults, whose tokens the other's begin with, is the other
  ordered : (bytes : List ℕ) (f g : Fault) (h : IsFirstFault z class bytes f) (k : IsFirstFault z class bytes g)
      (more : List TokenKind) (texts : List (List ℕ)) → AllZip SpellsToken more texts
      → k.tokens ≡ h.tokens ++ more → h.text ++ h.rest ≡ concat texts ++ (k.text ++ k.rest)
      → (f.offset ≡ g.offset) × (f.cause ≡ g.cause)
  ordered bytes f g h k [] [] w same e =
      let tokens_same : k.tokens ≡ h.tokens = same ∙ append-nil h.tokens in (
        h.offset ∙ ap length (same_front bytes h.tokens k.tokens (h.text ++ h.rest) (k.text ++ k.rest)
            (first_reads bytes f h) (first_reads bytes g k) e) ∙ sym k.offset,
        faulty_law h.tokens h.text k.text h.rest k.rest f.cause g.cause h.faulty
            (subst (λ (ts : List TokenKind). Faulty ts k.text g.cause) tokens_same k.faulty) e,
      )
  ordered bytes f g h k [] (a ∷ texts) w same e = absurd w
  ordered bytes f g h k (t ∷ more) [] w same e = absurd w
  ordered bytes f g h k (t ∷ more) (a ∷ texts) w same e =
      absurd (faulty_ends h.tokens t more h.text a h.rest (concat texts ++ (k.text ++ k.rest)) f.cause
      (rw same at k.clean) w.0 h.faulty (e ∙ append_assoc a (concat texts) (k.text ++ k.rest)))

  pub one_first_fault : (bytes : List ℕ) (f g : Fault) → IsFirstFault z class bytes f → IsFirstFault z class bytes g
      → f ≡ g
  one_first_fault bytes f g h k =
      elim (reads_split bytes h.tokens k.tokens (h.text ++ h.rest) (k.text ++ k.rest) (first_reads bytes f h)
      (first_reads bytes g k)) [
        | inl w ↦ let q = ordered bytes f g h k w.0 w.1 w.2 w.3 w.4 in same_fault f g q.0 q.1
        | inr w ↦ let q = ordered bytes g f k h w.0 w.1 w.2 w.3 w.4 in same_fault f g (sym q.0) (sym q.1)
      ]

  -- ---- bytes of clean tokens, and an end
  record EndsClean (bytes : List ℕ) (tokens : List TokenKind) (left : List ℕ) : Type 0 where
    reads : ReadsWith bytes tokens left
    clean : IsClean z class tokens
    end : IsEnd left

  -- they have no first fault
  clean_before : (bytes : List ℕ) (f : Fault) (h : IsFirstFault z class bytes f) (us : List TokenKind) (left : List ℕ)
      → EndsClean bytes us left
      → (more : List TokenKind) (texts : List (List ℕ)) → AllZip SpellsToken more texts → us ≡ h.tokens ++ more
      → h.text ++ h.rest ≡ concat texts ++ left → ⊥
  clean_before bytes f h us left k [] [] w same e = end_not_faulty h.tokens h.text left h.rest f.cause h.faulty k.end
      (sym e)
  clean_before bytes f h us left k [] (a ∷ texts) w same e = w
  clean_before bytes f h us left k (t ∷ more) [] w same e = w
  clean_before bytes f h us left k (t ∷ more) (a ∷ texts) w same e =
      faulty_ends h.tokens t more h.text a h.rest (concat texts ++ left) f.cause (rw same at k.clean) w.0 h.faulty
      (e ∙ append_assoc a (concat texts) left)

  clean_behind : (bytes : List ℕ) (f : Fault) (h : IsFirstFault z class bytes f) (us : List TokenKind) (left : List ℕ)
      → EndsClean bytes us left
      → (more : List TokenKind) (texts : List (List ℕ)) → AllZip SpellsToken more texts
      → left ≡ concat texts ++ (h.text ++ h.rest) → ⊥
  clean_behind bytes f h us left k [] [] w e = end_not_faulty h.tokens h.text left h.rest f.cause h.faulty k.end e
  clean_behind bytes f h us left k [] (a ∷ texts) w e = w
  clean_behind bytes f h us left k (t ∷ more) [] w e = w
  clean_behind bytes f h us left k (t ∷ more) (a ∷ texts) w e =
      end_no_token t a left (concat texts ++ (h.text ++ h.rest)) w.0 k.end
      (e ∙ append_assoc a (concat texts) (h.text ++ h.rest))

  clean_no_first : (bytes : List ℕ) (f : Fault) (us : List TokenKind) (left : List ℕ) → IsFirstFault z class bytes f
      → EndsClean bytes us left → ⊥
  clean_no_first bytes f us left h k =
      elim (reads_split bytes h.tokens us (h.text ++ h.rest) left (first_reads bytes f h) k.reads) [
        | inl w ↦ clean_before bytes f h us left k w.0 w.1 w.2 w.3 w.4
        | inr w ↦ clean_behind bytes f h us left k w.0 w.1 w.2 w.4
      ]

  -- their tokens and their end are determined
  end_first : (ts us : List TokenKind) (x y : List ℕ) → IsEnd x → (more : List TokenKind) (texts : List (List ℕ))
      → AllZip SpellsToken more texts → us ≡ ts ++ more → x ≡ concat texts ++ y → (ts ≡ us) × (x ≡ y)
  end_first ts us x y end [] [] w same e = (sym (same ∙ append-nil ts), e)
  end_first ts us x y end [] (a ∷ texts) w same e = absurd w
  end_first ts us x y end (t ∷ more) [] w same e = absurd w
  end_first ts us x y end (t ∷ more) (a ∷ texts) w same e = absurd
      (end_no_token t a x (concat texts ++ y) w.0 end (e ∙ append_assoc a (concat texts) y))

  one_end : (bytes : List ℕ) (ts us : List TokenKind) (x y : List ℕ) → EndsClean bytes ts x → EndsClean bytes us y
      → (ts ≡ us) × (x ≡ y)
  one_end bytes ts us x y h k = elim (reads_split bytes ts us x y h.reads k.reads) [
    | inl w ↦ end_first ts us x y h.end w.0 w.1 w.2 w.3 w.4
    | inr w ↦ let q = end_first us ts y x k.end w.0 w.1 w.2 w.3 w.4 in (sym q.0, sym q.1)
  ]

  -- ---- the last fault
  abbrev sequence_end : (bytes : List ℕ) (f : Fault) (h : EndsInSequence z class bytes f)
      → EndsClean bytes h.tokens h.text
  sequence_end bytes f h = record {
    reads = record { front = h.front; reads = h.reads; whole = h.whole };
    clean =
        h.clean;
    end = inr h.unfinished;
  }

  unknown_end : (bytes : List ℕ) (f : Fault) (h : LeavesUnknown z class bytes f) → EndsClean bytes h.tokens []
  unknown_end bytes f h = record {
    reads = record { front = bytes; reads = h.reads; whole = sym (append-nil bytes) };
    clean = h.clean;
    end = inl refl;
  }

  pub first_or_last : (bytes : List ℕ) (f g : Fault) → IsFirstFault z class bytes f → IsLastFault z class bytes g → ⊥
  first_or_last bytes f g h (inl k) = clean_no_first bytes f k.tokens k.text h (sequence_end bytes g k)
  first_or_last bytes f g h (inr k) = clean_no_first bytes f k.tokens [] h (unknown_end bytes g k)

  -- bytes of clean tokens, and then nothing or an unfinished sequence, have no first fault
  pub clean_or_first : (bytes front left : List ℕ) (tokens : List TokenKind) (f : Fault) → bytes ≡ front ++ left
      → Reads front tokens → IsClean z class tokens → (left ≡ []) ⊎ IsUnfinished left
      → IsFirstFault z class bytes f → ⊥
  clean_or_first bytes front left tokens f whole reads clean end h =
      clean_no_first bytes f tokens left h
      (record { reads = record { front = front; reads = reads; whole = whole }; clean = clean; end = end })

  -- ---- the first position that differs
  places_ordered : (p q : Position) → IsBefore p q ⊎ (p ≡ q) ⊎ IsBefore q p
  places_ordered p q = elim (cases_eq p.row q.row) [
    | inl r ↦ elim (cases_eq p.column q.column) [
      | inl c ↦ inr (inl (same_position p q r c))
      | inr n ↦ elim (cases_lt p.column q.column) [
        | inl l ↦ inl (inr (r, l))
        | inr g ↦ inr (inr (inr (sym r, omega arith)))
      ]
    ]
    | inr n ↦ elim (cases_lt p.row q.row) [
      | inl l ↦ inl (inl l)
      | inr g ↦ inr (inr (inl (omega arith)))
    ]
  ]

  cells_clash : (ts : List TokenKind) (p : Position) → CellsDiffer z class ts p → SameCell z class ts p → ⊥
  cells_clash ts p h g = h.4 (g h.0 h.1 h.2 h.3)

  one_unknown : (ts : List TokenKind) (p q : Position) → IsFirstUnknown z class ts p → IsFirstUnknown z class ts q
      → p ≡ q
  one_unknown ts p q h g = elim (places_ordered p q) [
    | inl before ↦ absurd (cells_clash ts p h.differs (g.earlier p h.stated before))
    | inr (inl same) ↦ same
    | inr (inr behind) ↦ absurd (cells_clash ts q g.differs (h.earlier q g.stated behind))
  ]

  pub one_last_fault : (bytes : List ℕ) (f g : Fault) → IsLastFault z class bytes f → IsLastFault z class bytes g
      → f ≡ g
  one_last_fault bytes f g (inl h) (inl k) =
      let same = (one_end bytes h.tokens k.tokens h.text k.text (sequence_end bytes f h) (sequence_end bytes g k)).1 in
      let fronts = same_front bytes h.tokens k.tokens h.text k.text (sequence_end bytes f h).reads
      (sequence_end bytes g k).reads same in
      h.fault_is ∙ ap (λ (v : List ℕ). fault_at (length v) EndInSequence) fronts ∙ sym k.fault_is
  one_last_fault bytes f g (inl h) (inr k) =
      absurd (nothing_not_unfinished h.text (one_end bytes h.tokens k.tokens h.text [] (sequence_end bytes f h)
      (unknown_end bytes g k)).1 h.unfinished)
  one_last_fault bytes f g (inr h) (inl k) =
      absurd (nothing_not_unfinished k.text (one_end bytes k.tokens h.tokens k.text [] (sequence_end bytes g k)
      (unknown_end bytes f h)).1 k.unfinished)
  one_last_fault bytes f g (inr h) (inr k) =
      let same : k.tokens ≡ h.tokens = one_reading bytes k.tokens h.tokens k.reads h.reads in
      let position : h.position ≡ k.position =
      one_unknown h.tokens h.position k.position h.first (rw same at k.first) in
      h.fault_is ∙ ap (λ (p : Position). fault_at (length bytes) (UnknownCell (p.row + 1) (p.column + 1))) position
      ∙ sym k.fault_is

  -- ---- good
  print_clean : (played : List TokenKind) (c : Cause) → 0 < z.width → PrintsWell z class played
      → ¬ HasPrintFault z class played c
  print_clean played PrintUnknownPlace w well f = f.4 (well.at_one_position f.0 f.1 f.2 f.3)
  print_clean played PrintBelow w well f = well.never_below (low_start z class) (low_is_start z class w)
      (f.1 (low_start z class) (low_is_start z class w))
  print_clean played _ w well f = f

  clean_at : (tokens : List TokenKind) → 0 < z.width → PlaysWell z class tokens → (k : ℕ) (t : TokenKind) (c : Cause)
      → slice_get tokens k ≡ Some t → ¬ HasFaultAfter z class (take k tokens) t c
  clean_at tokens w well k (Glyph byte) c e f = print_clean (take k tokens) c w (well.prints_well k byte e) f
  clean_at tokens w well k Tab c e f =
      print_clean (then_blanks (take k tokens) f.blanks_before) c w
      (well.tabs_well k f.blanks_before e (
        low_start z class,
        low_is_start z class w,
        f.goes_on (low_start z class) (low_is_start z class w),
      )) f.fault
  clean_at tokens w well k EraseLine EraseUnknownPlace e f = f.4 (well.erases_at_one_position k e f.0 f.1 f.2 f.3)
  clean_at tokens w well k LineFeed Scrolls e f = well.never_scrolls k e (low_start z class) (low_is_start z class w)
      (f (low_start z class) (low_is_start z class w))
  clean_at tokens w well k LineFeed MayScroll e f = well.never_scrolls k e f.0.0 f.0.1 f.0.2
  clean_at tokens w well k _ _ e f = f

  pub well_is_clean : (tokens : List TokenKind) → 0 < z.width → PlaysWell z class tokens → IsClean z class tokens
  well_is_clean tokens w well k c (t, e, inl f) = well.no_static_fault k t c e f
  well_is_clean tokens w well k c (t, e, inr f) = clean_at tokens w well k t c e f

  good_end : (bytes : List ℕ) (picture : Picture) (g : GoodWith z class bytes picture) → EndsClean bytes g.tokens []
  good_end bytes picture g = record {
    reads = record { front = bytes; reads = g.reads; whole = sym (append-nil bytes) };
    clean = well_is_clean g.tokens g.size.some_columns g.plays;
    end = inl refl;
  }

  pub good_or_first : (bytes : List ℕ) (f : Fault) → IsGood z class bytes → IsFirstFault z class bytes f → ⊥
  good_or_first bytes f (picture, g) h = clean_no_first bytes f g.tokens [] h (good_end bytes picture g)

  -- what shows a picture leaves no cell unknown
  shows_known : (tokens : List TokenKind) (picture : Picture) (p : Position) → Shows z class tokens picture
      → IsStated z p → CellsDiffer z class tokens p → ⊥
  shows_known tokens picture p h stated d = d.4 (h.shown d.0 p d.2 stated ∙ sym (h.shown d.1 p d.3 stated))

  pub good_or_last : (bytes : List ℕ) (f : Fault) → IsGood z class bytes → IsLastFault z class bytes f → ⊥
  good_or_last bytes f (picture, g) (inl h) =
      nothing_not_unfinished h.text (one_end bytes h.tokens g.tokens h.text [] (sequence_end bytes f h)
      (good_end bytes picture g)).1 h.unfinished
  good_or_last bytes f (picture, g) (inr h) =
      let same : h.tokens ≡ g.tokens = one_reading bytes h.tokens g.tokens h.reads g.reads in
      shows_known h.tokens picture h.position (rw (← same) at g.shows) h.first.stated h.first.differs

-- ---- the one cleared start
why_certain : (text : List ℕ) (byte : ℕ) (c : Cause) → IsWhy text byte c → IsCertain c
why_certain text byte c (inl h) = rw h.1 tt
why_certain text byte c (inr (inl h)) = rw h.2 tt
why_certain text byte c (inr (inr h)) = rw h.2 tt

-- what the reading refuses is certain
pub refused_certain : (text : List ℕ) (c : Cause) → IsRefused text c → IsCertain c
refused_certain text c (inl h) = meaning_certain c (rw h.means at (means_well h.raw))
refused_certain text c (inr h) = why_certain text h.byte c h.why

-- from the cleared start a first fault is certain
pub first_is_certain : (z : Size) (bytes : List ℕ) (f : Fault) → IsFirstFault z all_known bytes f
    → IsCertain f.cause
first_is_certain z bytes f h = elim h.faulty [
  | inl b ↦ certain_cause z h.tokens b.token f.cause b.fault
  | inr r ↦ refused_certain h.text f.cause r
]

-- from the cleared start a last fault is certain
pub last_is_certain : (z : Size) (bytes : List ℕ) (f : Fault) → IsLastFault z all_known bytes f
    → IsCertain f.cause
last_is_certain z bytes f (inl h) = rw h.fault_is tt
last_is_certain z bytes f (inr h) =
    let d = h.first.differs in
    absurd (d.4 (ap (λ (s : State). cell_at z (final z s h.tokens).screen h.position)
    (cleared_is_one z d.0 d.1 d.2 d.3)))
