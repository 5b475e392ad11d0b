-- Spelled tokens that go well, one after the other.
use Rattle.std.proofs.Common.{◌≡◌, ◌+◌, ◌<◌, Bool, sym, ◌∙◌, List, [], ◌∷◌, ◌++◌, fold, subst}
use Rattle.std.specs.Prelude.{IsTrue, false}
use Rattle.std.specs.List.{list_any}
use Rattle.std.proofs.lemmas.List.Sums.{fold-append}
use Rattle.ans_model.specs.File.Layout.{is_end_mark}
use Rattle.ans_model.specs.Sequence.Reads.{SpellsToken}
use Rattle.ans_model.specs.Sequence.TokenKind.{TokenKind, LineFeed}
use Rattle.ans_model.specs.Screen.State.{Size, State}
use Rattle.ans_players.specs.declared.difference.Difference.{Difference}
use Rattle.ans_players.specs.Sync.{Stand}
use Rattle.ans_players.specs.Players.{IsAllowed}
use Rattle.ans_players.specs.Situations.{Spelled, is_agreed, stand_behind}

-- a line feed leads to a stated row
abbrev pub FeedsOn : Size → State → TokenKind → Type 0
FeedsOn z s LineFeed = s.cursor.row + 1 < z.lines
FeedsOn z s t = Unit {0}

-- Its text spells it and has no end mark. It is not refused, it feeds no line below the stated ones, and no kinds but
-- agreed ones arise at it.
pub record GoesWell (z : Size) (agreed : Difference → Bool) (h : Stand) (x : Spelled) : Type 0 where
  pub spelled : SpellsToken x.token x.text
  pub unmarked : list_any is_end_mark x.text ≡ false
  pub allowed : IsAllowed z h.state x.token
  pub feeds_on : FeedsOn z h.state x.token
  pub agreed_there : IsTrue (is_agreed agreed z h x)

-- each goes well where the ones before it lead
abbrev pub AllGoWell : Size → (Difference → Bool) → Stand → List Spelled → Type 0
AllGoWell z agreed h [] = Unit {0}
AllGoWell z agreed h (x ∷ xs) = GoesWell z agreed h x × AllGoWell z agreed (stand_behind z h x) xs

-- they go well, from one stand to another
pub record Leads (z : Size) (agreed : Difference → Bool) (h : Stand) (xs : List Spelled) (there : Stand) : Type 0 where
  pub well : AllGoWell z agreed h xs
  pub leads : fold (stand_behind z) h xs ≡ there

module _ (z : Size) (agreed : Difference → Bool) where
  all_both : (xs ys : List Spelled) (h : Stand) → AllGoWell z agreed h xs
      → AllGoWell z agreed (fold (stand_behind z) h xs) ys → AllGoWell z agreed h (xs ++ ys)
  all_both [] ys h one more = more
  all_both (x ∷ xs) ys h one more = (one.0, all_both xs ys (stand_behind z h x) one.1 more)

  -- none
  pub stays : (h k : Stand) → h ≡ k → Leads z agreed h [] k
  stays h k e = record { well = tt; leads = e }

  -- one
  pub one_leads : (h : Stand) (x : Spelled) (k : Stand) → GoesWell z agreed h x → stand_behind z h x ≡ k
      → Leads z agreed h (x ∷ []) k
  one_leads h x k well e = record { well = (well, tt); leads = e }

  -- some, and then others
  pub both_lead : (h k m : Stand) (xs ys : List Spelled) → Leads z agreed h xs k → Leads z agreed k ys m
      → Leads z agreed h (xs ++ ys) m
  both_lead h k m xs ys one more = record {
    well = all_both xs ys h one.well (subst (λ (v : Stand). AllGoWell z agreed v ys) (sym one.leads) more.well);
    leads = fold-append (stand_behind z) h xs ys
        ∙ subst (λ (v : Stand). fold (stand_behind z) v ys ≡ m) (sym one.leads) more.leads;
  }
