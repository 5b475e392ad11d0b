-- Where more colours are named, no kinds but own-colours go.
use Rattle.std.proofs.Common.{ℕ, Bool, true, false, refl, sym, subst, List, [], ◌∷◌, fold, take}
use Rattle.std.proofs.lemmas.Bool.{and_from, and_parts, or_right}
use Rattle.std.specs.Prelude.{IsTrue, not, ◌&&◌}
use Rattle.std.specs.List.{list_all}
use Rattle.ans_model.specs.Screen.State.{Size}
use Rattle.ans_players.specs.declared.difference.Difference.{Difference}
use Rattle.ans_players.specs.declared.difference.Difference.TheVariants.{OwnColours}
use Rattle.ans_players.specs.Sync.{Stand}
use Rattle.ans_players.specs.Names.{Names, are_both, paints}
use Rattle.ans_players.specs.Situations.{Spelled, is_agreed, kind_if, stand_behind}
use Rattle.ans_players.proofs.MoreNames.{names_of, stands_with, with_names}
use Rattle.ans_players.proofs.OneOfTwo.{parts_agreed, from_parts}
use Rattle.ans_players_laws.specs.Laws.{or_own}

module _ (agreed : Difference → Bool) where
  all_or_own : (ks : List Difference) → IsTrue (list_all agreed ks) → IsTrue (list_all (or_own agreed) ks)
  all_or_own [] all = refl
  all_or_own (k ∷ ks) all =
      let parts = and_parts _ _ all in and_from _ _ (or_right _ _ parts.0) (all_or_own ks parts.1)

  own_is_agreed : (b : Bool) → IsTrue (list_all (or_own agreed) (kind_if b OwnColours))
  own_is_agreed true = refl
  own_is_agreed false = refl

  module _ (z : Size) where
    -- where other colours are named, none but own-colours arise besides
    pub agreed_or_own : (n m : Names) (h : Stand) (x : Spelled) → IsTrue (is_agreed agreed z (with_names m h) x)
        → IsTrue (is_agreed (or_own agreed) z (with_names n h) x)
    agreed_or_own n m h x all =
        let parts = parts_agreed z agreed (with_names m h) x all in
        from_parts z (or_own agreed) (with_names n h) x (record {
          sync = all_or_own _ parts.sync;
          token = all_or_own _ parts.token;
          spelling = all_or_own _ parts.spelling;
          named = own_is_agreed (paints x.token && not (are_both n));
        })

    pub agreed_along_or_own : (n m : Names) (h : Stand) (xs : List Spelled) (k : ℕ) (x : Spelled)
        → IsTrue (is_agreed agreed z (fold (stand_behind z) (with_names m h) (take k xs)) x)
        → IsTrue (is_agreed (or_own agreed) z (fold (stand_behind z) (with_names n h) (take k xs)) x)
    agreed_along_or_own n m h xs k x all =
        subst (λ (v : Stand). IsTrue (is_agreed (or_own agreed) z v x)) (sym (stands_with z (take k xs) n h))
        (agreed_or_own (names_of (take k xs) n) (names_of (take k xs) m) (fold (stand_behind z) h (take k xs)) x
        (subst (λ (v : Stand). IsTrue (is_agreed agreed z v x)) (stands_with z (take k xs) m h) all))
