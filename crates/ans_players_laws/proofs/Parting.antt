-- Players that part from the profile at a token alone, and the profile.
use Rattle.std.proofs.Common.{◌++◌, Bool, ap, ◌∙◌, refl, sym}
use Rattle.std.proofs.lemmas.Bool.{and_parts}
use Rattle.std.proofs.lemmas.List.Folds.{list_all-append}
use Rattle.std.specs.Prelude.{IsTrue}
use Rattle.std.specs.List.{list_all}
use Rattle.ans_model.specs.Screen.State.{Size, State, cell_at}
use Rattle.ans_model.specs.Screen.Step.{step}
use Rattle.ans_players.specs.declared.difference.Difference.{Difference}
use Rattle.ans_players.specs.Sync.{Stand}
use Rattle.ans_players.specs.Situations.{Spelled, is_agreed, name_kinds, own_kinds}
use Rattle.ans_players.proofs.OneOfTwo.{sync_kinds}
use Rattle.ans_players_laws.specs.Witnesses.{IsProfilePlayer, PartsWhereKindsArise}

-- the kinds of the token itself are agreed
own_agreed : (z : Size) (agreed : Difference → Bool) (h : Stand) (x : Spelled) → IsTrue (is_agreed agreed z h x)
    → IsTrue (list_all agreed (own_kinds z h.state x))
own_agreed z agreed h x agrees =
    (and_parts _ _ (sym (list_all-append agreed (own_kinds z h.state x) (name_kinds h.names x.token))
    ∙ (and_parts _ _ (sym (list_all-append agreed (sync_kinds z h.sync x.token)
    (own_kinds z h.state x ++ name_kinds h.names x.token)) ∙ agrees)).1)).0

pub parting : PartsWhereKindsArise
parting z agreed plays same = record {
  shows_the_same = λ m h p e stated. ap (λ (v : State). cell_at z v.screen p) e;
  goes_along = λ m h x e allowed a.
      ap (λ (v : State). plays z v x) e ∙ same h.state x (own_agreed z agreed h x a);
}

pub profile_player : IsProfilePlayer
profile_player z agreed = parting z agreed (λ z s x. step z s x.token) (λ s x agrees. refl)
