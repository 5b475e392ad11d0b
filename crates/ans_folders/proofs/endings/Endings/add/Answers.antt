use Rattle.std.proofs.Common.{◌≡◌, ◌+◌, false, refl, string_bytes, subst, sym, ◌∙◌, ap, rules}
use Rattle.std.proofs.lemmas.Map.Text.{btree_map_updates_text}
use Rattle.ans_folders.specs.Endings.{CountsOneMore, ending_count, is_further}
use Rattle.ans_folders.specs.Paths.{Text}
use Rattle.ans_folders.proofs.EndingLemmas.{counts_set}
use Rattle.ans_folders.proofs.endings.Endings.add.Goals as goal

pub returns : goal.returns
returns c =
    let self = c.args.self.now in
    let ending = string_bytes c.in_ok-ending.ending in
    let own : is_further self ending ≡ false =
    ap (λ e. is_further self e) (sym c.as_str.ensures.value) ∙ (sym c.is_further.ensures ∙ c.if-is_further.false) in
    let counted : c.count.result ≡ ending_count self ending =
    c.count.ensures ∙ ap (λ e. ending_count self e) c.as_str-2.ensures.value in
    let more : c.in_ok-more.more ≡ ending_count self ending + 1 = rw (sym counted) (search rules) in
    let sets = btree_map_updates_text ending self.counts c.insert.new.self _ c.in_ok-insert.ensures.updates in
    let P : Text → Type 0 = λ e. CountsOneMore self (record { counts = c.insert.new.self; further = self.further }) e in
    subst P c.in_ok-ending.ensures (counts_set self _ ending own refl (rw more at sets))
