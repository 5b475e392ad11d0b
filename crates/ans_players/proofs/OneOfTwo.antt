-- A play beside two others: each of its parts is that of one of the two.
use Rattle.std.proofs.Common.{◌≡◌, ◌⊎◌, inl, inr, ℕ, zero, suc, Bool, true, refl, ap, ap₂, ◌∙◌, sym, List}
use Rattle.std.proofs.Common.{[], ◌∷◌, ◌++◌, fold, take, Some}
use Rattle.std.proofs.lemmas.Bool.{and_parts, and_from}
use Rattle.std.proofs.lemmas.List.Folds.{list_all-append}
use Rattle.std.specs.Prelude.{slice_get, if◌then◌else◌, IsTrue}
use Rattle.std.specs.List.{list_all}
use Rattle.ans_model.specs.Sequence.TokenKind.{TokenKind, Glyph, Tab, Down}
use Rattle.ans_model.specs.Sequence.TokenKind.{Forward, Clear, EraseLine, Save, Restore, Colours, Wrap}
use Rattle.ans_model.specs.Screen.State.{Size}
use Rattle.ans_model.specs.declared.cell.Position.{Position}
use Rattle.ans_players.specs.declared.difference.Difference.{Difference}
use Rattle.ans_players.specs.Sync.{Sync, Stand, stand_after, is_same_for_all, unsure_kinds}
use Rattle.ans_players.specs.Names.{Names, names_after}
use Rattle.ans_players.specs.Situations.{Spelled, is_agreed, token_kinds, spelling_kinds, own_kinds, name_kinds}
use Rattle.ans_players.specs.Situations.{stand_behind}
use Rattle.ans_players.specs.Players.{StaysAbove}
use Rattle.ans_players.proofs.Afters.{next, cursor_after, saved_after, attribute_after_token, wrap_after}
use Rattle.ans_players.proofs.Afters.{sync_of, parts_after, sync_is}

-- where a play stands, and in which sync
pub record Footing : Type 0 where
  pub sync : Sync
  pub cursor : Position

abbrev pub place_of : Stand → Footing
place_of h = record { sync = h.sync; cursor = h.state.cursor }

-- one of two
abbrev pub IsOneOf : (X : Type 0) → X → X → X → Type 0
IsOneOf X x p q = (x ≡ p) ⊎ (x ≡ q)

one_of : (X Y : Type 0) (f : X → Y) (x p q : X) → IsOneOf X x p q → IsOneOf Y (f x) (f p) (f q)
one_of X Y f x p q (inl e) = inl (ap f e)
one_of X Y f x p q (inr e) = inr (ap f e)

from_equal : (X : Type 0) (x p q y a b : X) → x ≡ y → p ≡ a → q ≡ b → IsOneOf X y a b → IsOneOf X x p q
from_equal X x p q y a b e f g (inl h) = inl (e ∙ h ∙ sym f)
from_equal X x p q y a b e f g (inr h) = inr (e ∙ h ∙ sym g)

pub record IsBeside (h p q : Stand) : Type 0 where
  pub place : IsOneOf Footing (place_of h) (place_of p) (place_of q)
  pub saved : IsOneOf Position h.state.saved p.state.saved q.state.saved
  pub attribute : IsOneOf ℕ h.state.attribute p.state.attribute q.state.attribute
  pub wrap : IsOneOf Bool h.state.wrap p.state.wrap q.state.wrap
  pub names : h.names ≡ p.names

-- what is printed is printed at one place
abbrev pub PrintsAtOne : TokenKind → Stand → Stand → Stand → Type 0
PrintsAtOne (Glyph byte) h p q = (h.state.cursor ≡ p.state.cursor) × (h.state.cursor ≡ q.state.cursor)
PrintsAtOne Tab h p q = (h.state.cursor ≡ p.state.cursor) × (h.state.cursor ≡ q.state.cursor)
PrintsAtOne t h p q = Unit {0}

module _ (z : Size) where
  -- where a token leads
  abbrev leads : TokenKind → Footing → Position → Bool → Footing
  leads t w saved wrap =
      record { sync = sync_of z t w.sync w.cursor wrap; cursor = cursor_after z t w.cursor saved wrap }

  same_place : (g g' : Sync) (c c' : Position) → g ≡ g' → c ≡ c'
      → ◌≡◌ {A = Footing} (record { sync = g; cursor = c }) (record { sync = g'; cursor = c' })
  same_place g g' c c' e f = ap₂ (λ (x : Sync) (y : Position). record { sync = x; cursor = y }) e f

  place_is : (h : Stand) (t : TokenKind) → StaysAbove z h.state t
      → place_of (stand_after z h t) ≡ leads t (place_of h) h.state.saved h.state.wrap
  place_is h t above =
      same_place _ _ _ _ (sync_is z h.sync h.state t above) (parts_after z h.state t above).cursor

  -- a printed byte leads from one place
  print_leads : (t : TokenKind) (F : Position → Bool → Footing) (h p q : Stand)
      → ((h.state.cursor ≡ p.state.cursor) × (h.state.cursor ≡ q.state.cursor)) → IsBeside h p q
      → IsOneOf Footing (F h.state.cursor h.state.wrap) (F p.state.cursor p.state.wrap) (F q.state.cursor q.state.wrap)
  print_leads t F h p q one beside = go beside.wrap
    where
      go : IsOneOf Bool h.state.wrap p.state.wrap q.state.wrap
          → IsOneOf Footing (F h.state.cursor h.state.wrap) (F p.state.cursor p.state.wrap)
          (F q.state.cursor q.state.wrap)
      go (inl e) = inl (ap₂ F one.0 e)
      go (inr e) = inr (ap₂ F one.1 e)

  leads_beside : (t : TokenKind) (h p q : Stand) → PrintsAtOne t h p q → IsBeside h p q
      → IsOneOf Footing (leads t (place_of h) h.state.saved h.state.wrap)
      (leads t (place_of p) p.state.saved p.state.wrap) (leads t (place_of q) q.state.saved q.state.wrap)
  leads_beside (Glyph byte) h p q one beside =
      print_leads (Glyph byte) (λ c w. record { sync = sync_of z (Glyph byte) h.sync c w; cursor = next z w c })
      h p q one beside
  leads_beside Tab h p q one beside =
      print_leads Tab (λ c w. record { sync = sync_of z Tab h.sync c w; cursor = cursor_after z Tab c c w })
      h p q one beside
  leads_beside Restore h p q one beside =
      one_of Position Footing (λ v. record { sync = sync_of z Restore h.sync v true; cursor = v })
      h.state.saved p.state.saved q.state.saved beside.saved
  leads_beside t h p q one beside =
      one_of Footing Footing (λ w. leads t w h.state.saved h.state.wrap) (place_of h) (place_of p) (place_of q)
      beside.place

  saved_beside : (t : TokenKind) (h p q : Stand) → IsBeside h p q
      → IsOneOf Position (saved_after t h.state.cursor h.state.saved) (saved_after t p.state.cursor p.state.saved)
      (saved_after t q.state.cursor q.state.saved)
  saved_beside Save h p q beside =
      one_of Footing Position (λ w. w.cursor) (place_of h) (place_of p) (place_of q) beside.place
  saved_beside t h p q beside = beside.saved

  wrap_beside : (t : TokenKind) (h p q : Stand) → IsBeside h p q
      → IsOneOf Bool (wrap_after t h.state.wrap) (wrap_after t p.state.wrap) (wrap_after t q.state.wrap)
  wrap_beside (Wrap on) h p q beside = inl refl
  wrap_beside t h p q beside = beside.wrap

  -- so after one token
  pub beside_after : (t : TokenKind) (h p q : Stand) → StaysAbove z h.state t → StaysAbove z p.state t
      → StaysAbove z q.state t → PrintsAtOne t h p q → IsBeside h p q
      → IsBeside (stand_after z h t) (stand_after z p t) (stand_after z q t)
  beside_after t h p q above_h above_p above_q one beside =
      let of_h = parts_after z h.state t above_h in
      let of_p = parts_after z p.state t above_p in
      let of_q = parts_after z q.state t above_q in
      record {
        place = from_equal Footing _ _ _ _ _ _ (place_is h t above_h) (place_is p t above_p) (place_is q t above_q)
            (leads_beside t h p q one beside);
        saved = from_equal Position _ _ _ _ _ _ of_h.saved_is of_p.saved_is of_q.saved_is (saved_beside t h p q beside);
        attribute = from_equal ℕ _ _ _ _ _ _ of_h.attribute of_p.attribute of_q.attribute
            (one_of ℕ ℕ (attribute_after_token t) h.state.attribute p.state.attribute q.state.attribute
            beside.attribute);
        wrap = from_equal Bool _ _ _ _ _ _ of_h.wrap_is of_p.wrap_is of_q.wrap_is (wrap_beside t h p q beside);
        names = ap (λ (n : Names). names_after n t) beside.names;
      }

  -- ---- what is agreed at both is agreed
  both_so : (X : Type 0) (test : X → Bool) (x p q : X) → IsOneOf X x p q → IsTrue (test p) → IsTrue (test q)
      → IsTrue (test x)
  both_so X test x p q (inl e) yes_p yes_q = ap test e ∙ yes_p
  both_so X test x p q (inr e) yes_p yes_q = ap test e ∙ yes_q

  abbrev pub sync_kinds : Sync → TokenKind → List Difference
  sync_kinds g t = if is_same_for_all g t then [] else unsure_kinds g

  pub record PartsAgreed (agreed : Difference → Bool) (h : Stand) (x : Spelled) : Type 0 where
    pub sync : IsTrue (list_all agreed (sync_kinds h.sync x.token))
    pub token : IsTrue (list_all agreed (token_kinds z h.state x.token))
    pub spelling : IsTrue (list_all agreed (spelling_kinds h.state x.token x.text))
    pub named : IsTrue (list_all agreed (name_kinds h.names x.token))

  pub parts_agreed : (agreed : Difference → Bool) (h : Stand) (x : Spelled) → IsTrue (is_agreed agreed z h x)
      → PartsAgreed agreed h x
  parts_agreed agreed h x agrees =
      let all = and_parts _ _ (sym (list_all-append agreed (sync_kinds h.sync x.token)
      (own_kinds z h.state x ++ name_kinds h.names x.token)) ∙ agrees) in
      let own = and_parts _ _ (sym (list_all-append agreed (own_kinds z h.state x)
      (name_kinds h.names x.token)) ∙ all.1) in
      let others = and_parts _ _ (sym (list_all-append agreed (token_kinds z h.state x.token)
      (spelling_kinds h.state x.token x.text)) ∙ own.0) in
      record { sync = all.0; token = others.0; spelling = others.1; named = own.1 }

  pub from_parts : (agreed : Difference → Bool) (h : Stand) (x : Spelled) → PartsAgreed agreed h x
      → IsTrue (is_agreed agreed z h x)
  from_parts agreed h x parts =
      list_all-append agreed (sync_kinds h.sync x.token) (own_kinds z h.state x ++ name_kinds h.names x.token)
      ∙ and_from _ _ parts.sync (list_all-append agreed (own_kinds z h.state x) (name_kinds h.names x.token)
      ∙ and_from _ _ (list_all-append agreed (token_kinds z h.state x.token)
      (spelling_kinds h.state x.token x.text) ∙ and_from _ _ parts.token parts.spelling) parts.named)

  spelling_agreed : (agreed : Difference → Bool) (t : TokenKind) (text : List ℕ) (h p q : Stand) → IsBeside h p q
      → IsTrue (list_all agreed (spelling_kinds p.state t text))
      → IsTrue (list_all agreed (spelling_kinds q.state t text))
      → IsTrue (list_all agreed (spelling_kinds h.state t text))
  spelling_agreed agreed (Colours parameters) text h p q beside yes_p yes_q =
      both_so ℕ (λ a. list_all agreed (spelling_kinds (record h.state { attribute = a }) (Colours parameters) text))
      h.state.attribute p.state.attribute q.state.attribute beside.attribute yes_p yes_q
  spelling_agreed agreed t text h p q beside yes_p yes_q = yes_p

  token_agreed : (agreed : Difference → Bool) (t : TokenKind) (h p q : Stand) → IsBeside h p q
      → IsTrue (list_all agreed (token_kinds z p.state t)) → IsTrue (list_all agreed (token_kinds z q.state t))
      → IsTrue (list_all agreed (token_kinds z h.state t))
  token_agreed agreed (Forward n) h p q beside yes_p yes_q =
      both_so Footing (λ w. list_all agreed (token_kinds z (record h.state { cursor = w.cursor }) (Forward n)))
      (place_of h) (place_of p) (place_of q) beside.place yes_p yes_q
  token_agreed agreed (Down n) h p q beside yes_p yes_q =
      both_so Footing (λ w. list_all agreed (token_kinds z (record h.state { cursor = w.cursor }) (Down n)))
      (place_of h) (place_of p) (place_of q) beside.place yes_p yes_q
  token_agreed agreed Clear h p q beside yes_p yes_q =
      both_so ℕ (λ a. list_all agreed (token_kinds z (record h.state { attribute = a }) Clear))
      h.state.attribute p.state.attribute q.state.attribute beside.attribute yes_p yes_q
  token_agreed agreed EraseLine h p q beside yes_p yes_q =
      both_so ℕ (λ a. list_all agreed (token_kinds z (record h.state { attribute = a }) EraseLine))
      h.state.attribute p.state.attribute q.state.attribute beside.attribute yes_p yes_q
  token_agreed agreed t h p q beside yes_p yes_q = yes_p

  pub agreed_beside : (agreed : Difference → Bool) (x : Spelled) (h p q : Stand) → IsBeside h p q
      → IsTrue (is_agreed agreed z p x) → IsTrue (is_agreed agreed z q x) → IsTrue (is_agreed agreed z h x)
  agreed_beside agreed x h p q beside yes_p yes_q =
      let of_p = parts_agreed agreed p x yes_p in
      let of_q = parts_agreed agreed q x yes_q in
      from_parts agreed h x (record {
        sync = both_so Footing (λ w. list_all agreed (sync_kinds w.sync x.token)) (place_of h) (place_of p)
            (place_of q) beside.place of_p.sync of_q.sync;
        token = token_agreed agreed x.token h p q beside of_p.token of_q.token;
        spelling = spelling_agreed agreed x.token x.text h p q beside of_p.spelling of_q.spelling;
        named = ap (λ (n : Names). list_all agreed (name_kinds n x.token)) beside.names ∙ of_p.named;
      })

  -- ---- along tokens
  -- what the three plays need at a token
  pub record GoTogether (t : TokenKind) (h p q : Stand) : Type 0 where
    pub above : StaysAbove z h.state t
    pub above_first : StaysAbove z p.state t
    pub above_second : StaysAbove z q.state t
    pub one : PrintsAtOne t h p q

  pub beside_along : (xs : List Spelled) (h p q : Stand) → IsBeside h p q
      → ((k : ℕ) (x : Spelled) → slice_get xs k ≡ Some x → GoTogether x.token
      (fold (stand_behind z) h (take k xs)) (fold (stand_behind z) p (take k xs)) (fold (stand_behind z) q (take k xs)))
      → (k : ℕ) (x : Spelled) → slice_get xs k ≡ Some x
      → IsBeside (fold (stand_behind z) h (take k xs)) (fold (stand_behind z) p (take k xs))
      (fold (stand_behind z) q (take k xs))
  beside_along [] h p q beside each k x e = absurd (let no : ⊥ = cc in no)
  beside_along (y ∷ ys) h p q beside each zero x e = beside
  beside_along (y ∷ ys) h p q beside each (suc k) x e =
      let now = each 0 y refl in
      beside_along ys (stand_behind z h y) (stand_behind z p y) (stand_behind z q y)
      (beside_after y.token h p q now.above now.above_first now.above_second now.one beside)
      (λ j v f. each (suc j) v f) k x e
