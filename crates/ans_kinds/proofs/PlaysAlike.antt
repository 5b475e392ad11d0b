-- Plays that stand alike go on alike.
use Rattle.std.proofs.Common.{◌≡◌, ℕ, zero, suc, ◌+◌, Bool, true, false, List, [], ◌∷◌, ◌++◌, refl, ap, ap₂, ◌∙◌, subst}
use Rattle.std.proofs.Common.{fold, replicate, take, Some}
use Rattle.std.specs.Prelude.{IsTrue, slice_get, nat_lt, ◌==◌, ◌&&◌, if◌then◌else◌, not}
use Rattle.std.specs.List.{list_all}
use Rattle.ans_model.specs.Bytes.{blank}
use Rattle.ans_model.specs.Sequence.TokenKind.{TokenKind, Glyph, Tab, LineFeed, CarriageReturn, Down, Forward, Clear}
use Rattle.ans_model.specs.Sequence.TokenKind.{EraseLine, Save, Restore, Colours, Wrap}
use Rattle.ans_model.specs.Screen.Attribute.{attribute_after_all}
use Rattle.ans_model.specs.Screen.State.{Size, State, at}
use Rattle.ans_model.specs.Screen.Step.{step, destination, line_feed, advanced, printed, put, tab_blanks, scrolled}
use Rattle.ans_model.specs.declared.cell.Position.{Position}
use Rattle.ans_players.specs.Sync.{Sync, Stand, InSync, AfterWrap, AfterFeed, AfterReturn, OutOfSync, sync_after}
use Rattle.ans_players.specs.Sync.{is_home}
use Rattle.ans_players.specs.Sync.{unsure_kinds, is_same_for_all}
use Rattle.ans_players.specs.Names.{Names, names_after}
use Rattle.ans_players.specs.Situations.{Spelled, is_agreed, kind_if, name_kinds, situations, spelling_kinds}
use Rattle.ans_players.specs.Situations.{stand_behind, token_kinds}
use Rattle.ans_players.specs.declared.difference.Difference.{Difference}
use Rattle.ans_players.specs.declared.difference.Difference.TheVariants.{StopsAtEdge, HomeOnClear, SavePlaceOnly}
use Rattle.ans_players.proofs.OneOfTwo.{parts_agreed}
use Rattle.ans_kinds.specs.AgreedWalked.{AreAlike}
use Rattle.ans_pens.specs.Pens.{pen_of}

module _ (z : Size) (restores : Bool) where
  abbrev Alike : State → State → Type 0
  Alike s r = AreAlike restores (pen_of s) (pen_of r)

  -- ---- one token
  alike_if : (test : Bool) (s s' r r' : State) → Alike s r → Alike s' r'
      → Alike (if test then s else s') (if test then r else r')
  alike_if true s s' r r' h g = h
  alike_if false s s' r r' h g = g

  moved : (s r : State) (p q : Position) → Alike s r → p ≡ q → Alike (record s { cursor = p }) (record r { cursor = q })
  moved s r p q h e = record { cursor = e; saved = h.saved; attribute = h.attribute; wrap = h.wrap }

  fed : (s r : State) → Alike s r → Alike (line_feed z s) (line_feed z r)
  fed s r h =
      let below : Position → Position = λ p. at (p.row + 1) p.column in
      subst (λ (b : Bool). Alike (line_feed z s) (if b then scrolled z r else record r { cursor = below r.cursor }))
      (ap (λ (p : Position). p.row == z.lines) h.cursor)
      (alike_if (s.cursor.row == z.lines) (scrolled z s) (record s { cursor = below s.cursor }) (scrolled z r)
      (record r { cursor = below r.cursor })
      (record { cursor = h.cursor; saved = h.saved; attribute = h.attribute; wrap = h.wrap })
      (moved s r _ _ h (ap below h.cursor)))

  wrapped : (s r : State) → Alike s r
      → Alike (if s.wrap then line_feed z (record s { cursor = at s.cursor.row 0 }) else s)
      (if r.wrap then line_feed z (record r { cursor = at r.cursor.row 0 }) else r)
  wrapped s r h =
      let below : State → State = λ t. line_feed z (record t { cursor = at t.cursor.row 0 }) in
      subst (λ (b : Bool). Alike (if s.wrap then below s else s) (if b then below r else r)) h.wrap
      (alike_if s.wrap (below s) s (below r) r
      (fed _ _ (moved s r _ _ h (ap (λ (p : Position). at p.row 0) h.cursor))) h)

  gone_on : (s r : State) → Alike s r → Alike (advanced z s) (advanced z r)
  gone_on s r h =
      let next : Position → Position = λ p. at p.row (p.column + 1) in
      let last : State → State =
      λ t. if t.wrap then line_feed z (record t { cursor = at t.cursor.row 0 }) else t in
      subst (λ (b : Bool). Alike (advanced z s) (if b then record r { cursor = next r.cursor } else last r))
      (ap (λ (p : Position). nat_lt (p.column + 1) z.width) h.cursor)
      (alike_if (nat_lt (s.cursor.column + 1) z.width) (record s { cursor = next s.cursor }) (last s)
      (record r { cursor = next r.cursor }) (last r) (moved s r _ _ h (ap next h.cursor)) (wrapped s r h))

  put_alike : (s r : State) (byte : ℕ) → Alike s r → Alike (put z s byte) (put z r byte)
  put_alike s r byte h =
      gone_on (printed z s byte) (printed z r byte)
      (record { cursor = h.cursor; saved = h.saved; attribute = h.attribute; wrap = h.wrap })

  blanks_alike : (n : ℕ) (s r : State) → Alike s r
      → Alike (fold (put z) s (replicate n blank)) (fold (put z) r (replicate n blank))
  blanks_alike zero s r h = h
  blanks_alike (suc n) s r h = blanks_alike n (put z s blank) (put z r blank) (put_alike s r blank h)

  step_alike : (t : TokenKind) (s r : State) → (t ≡ Restore → restores ≡ true) → Alike s r
      → Alike (step z s t) (step z r t)
  step_alike Clear s r goes h =
      record { cursor = refl; saved = h.saved; attribute = h.attribute; wrap = h.wrap }
  step_alike EraseLine s r goes h =
      record { cursor = h.cursor; saved = h.saved; attribute = h.attribute; wrap = h.wrap }
  step_alike Save s r goes h =
      record { cursor = h.cursor; saved = λ e. h.cursor; attribute = h.attribute; wrap = h.wrap }
  step_alike Restore s r goes h =
      record { cursor = h.saved (goes refl); saved = h.saved; attribute = h.attribute; wrap = h.wrap }
  step_alike (Colours parameters) s r goes h = record {
    cursor = h.cursor;
    saved = h.saved;
    attribute = ap (λ (a : ℕ). attribute_after_all a parameters) h.attribute;
    wrap = h.wrap;
  }
  step_alike (Wrap on) s r goes h =
      record { cursor = h.cursor; saved = h.saved; attribute = h.attribute; wrap = refl }
  step_alike LineFeed s r goes h = fed s r h
  step_alike (Glyph byte) s r goes h = put_alike s r byte h
  step_alike Tab s r goes h =
      subst (λ (n : ℕ). Alike (step z s Tab) (fold (put z) r (replicate n blank)))
      (ap (λ (p : Position). tab_blanks p.column) h.cursor) (blanks_alike (tab_blanks s.cursor.column) s r h)
  step_alike t s r goes h = moved s r _ _ h (ap (λ (p : Position). destination z t p) h.cursor)

  -- ---- the sync after it
  print_alike : (s r : State) → Alike s r
      → (if s.wrap && s.cursor.column == 0 then AfterWrap else InSync)
      ≡ (if r.wrap && r.cursor.column == 0 then AfterWrap else InSync)
  print_alike s r h =
      ap₂ (λ (on : Bool) (p : Position). if on && p.column == 0 then AfterWrap else InSync) h.wrap h.cursor

  sync_alike : (g : Sync) (t : TokenKind) (s r : State) → (t ≡ Restore → restores ≡ true) → Alike s r
      → sync_after z g s t ≡ sync_after z g r t
  sync_alike g (Glyph byte) s r goes h =
      print_alike (step z s (Glyph byte)) (step z r (Glyph byte)) (step_alike (Glyph byte) s r goes h)
  sync_alike g Tab s r goes h = print_alike (step z s Tab) (step z r Tab) (step_alike Tab s r goes h)
  sync_alike AfterFeed CarriageReturn s r goes h = refl
  sync_alike AfterReturn CarriageReturn s r goes h = refl
  sync_alike g CarriageReturn s r goes h =
      ap (λ (p : Position). if p.column == 0 then InSync else AfterReturn) h.cursor
  sync_alike g LineFeed s r goes h = ap (λ (p : Position). if p.column == 0 then InSync else AfterFeed) h.cursor
  sync_alike g Clear s r goes h = ap (λ (p : Position). if is_home p then InSync else OutOfSync HomeOnClear) h.cursor
  sync_alike g Save s r goes h = ap (λ (p : Position). if is_home p then InSync else OutOfSync SavePlaceOnly) h.cursor
  sync_alike g t s r goes h = refl

  -- ---- the kinds that arise at it
  token_kinds_alike : (t : TokenKind) (s r : State) → Alike s r → token_kinds z s t ≡ token_kinds z r t
  token_kinds_alike (Forward n) s r h =
      ap (λ (p : Position). kind_if (not (nat_lt (p.column + n) z.width)) StopsAtEdge) h.cursor
  token_kinds_alike (Down n) s r h =
      ap (λ (p : Position). kind_if (nat_lt z.lines (p.row + n)) StopsAtEdge) h.cursor
  token_kinds_alike Clear s r h = ap (λ (a : ℕ). token_kinds z (record s { attribute = a }) Clear) h.attribute
  token_kinds_alike EraseLine s r h =
      ap (λ (a : ℕ). token_kinds z (record s { attribute = a }) EraseLine) h.attribute
  token_kinds_alike t s r h = refl

  spelling_alike : (t : TokenKind) (text : List ℕ) (s r : State) → Alike s r
      → spelling_kinds s t text ≡ spelling_kinds r t text
  spelling_alike (Colours parameters) text s r h =
      ap (λ (a : ℕ). spelling_kinds (record s { attribute = a }) (Colours parameters) text) h.attribute
  spelling_alike t text s r h = refl

  pub record StandAlike (h k : Stand) : Type 0 where
    pub sync : h.sync ≡ k.sync
    pub names : h.names ≡ k.names
    pub state : AreAlike restores (pen_of h.state) (pen_of k.state)

  abbrev sync_kinds : Sync → TokenKind → List Difference
  sync_kinds g t = if is_same_for_all g t then [] else unsure_kinds g

  situations_alike : (x : Spelled) (h k : Stand) → StandAlike h k → situations z h x ≡ situations z k x
  situations_alike x h k a =
      ap₂ (λ (u v : List Difference). u ++ v) (ap (λ (g : Sync). sync_kinds g x.token) a.sync)
      (ap₂ (λ (u v : List Difference). u ++ v)
      (ap₂ (λ (u v : List Difference). u ++ v) (token_kinds_alike x.token h.state k.state a.state)
      (spelling_alike x.token x.text h.state k.state a.state))
      (ap (λ (n : Names). name_kinds n x.token) a.names))

  behind_alike : (x : Spelled) (h k : Stand) → (x.token ≡ Restore → restores ≡ true) → StandAlike h k
      → StandAlike (stand_behind z h x) (stand_behind z k x)
  behind_alike x h k goes a = record {
    sync = ap (λ (g : Sync). sync_after z g h.state x.token) a.sync
        ∙ sync_alike k.sync x.token h.state k.state goes a.state;
    names = ap (λ (n : Names). names_after n x.token) a.names;
    state = step_alike x.token h.state k.state goes a.state;
  }

-- ---- along tokens
module _ (agreed : Difference → Bool) (z : Size) where
  -- a restore is of a kind of its own
  restore_agreed : (x : Spelled) (k : Stand) → IsTrue (is_agreed agreed z k x) → x.token ≡ Restore
      → agreed SavePlaceOnly ≡ true
  restore_agreed x k is e =
      let token = (parts_agreed z agreed k x is).token in
      first (agreed SavePlaceOnly) (rw e at token)
    where
      first : (test : Bool) → IsTrue (test && true) → test ≡ true
      first true h = refl
      first false h = h

  -- what is agreed in a play is agreed in one that stands alike before it
  pub agreed_alike : (xs : List Spelled) (h k : Stand) → StandAlike z (agreed SavePlaceOnly) h k
      → ((i : ℕ) (x : Spelled) → slice_get xs i ≡ Some x
      → IsTrue (is_agreed agreed z (fold (stand_behind z) k (take i xs)) x))
      → (i : ℕ) (x : Spelled) → slice_get xs i ≡ Some x
      → IsTrue (is_agreed agreed z (fold (stand_behind z) h (take i xs)) x)
  agreed_alike [] h k a each i x e = absurd (let no : ⊥ = cc in no)
  agreed_alike (y ∷ xs) h k a each zero x e =
      ap (list_all agreed) (situations_alike z (agreed SavePlaceOnly) x h k a) ∙ each zero x e
  agreed_alike (y ∷ xs) h k a each (suc i) x e =
      agreed_alike xs (stand_behind z h y) (stand_behind z k y)
      (behind_alike z (agreed SavePlaceOnly) y h k (restore_agreed y k (each zero y refl)) a)
      (λ j w there. each (suc j) w there) i x e
