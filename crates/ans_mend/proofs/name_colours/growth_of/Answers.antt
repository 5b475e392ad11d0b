use Rattle.std.proofs.Common.{ℕ, ◌+◌, ◌-◌, List, length, drop, refl, sym, subst, Option}
use Rattle.ans_model.specs.Sequence.Reads.{Reads}
use Rattle.ans_pens.specs.declared.times.Times.{Times}
use Rattle.ans_mend.specs.NameSearch.{IsNamedFirst, NoneIsNamed}
use Rattle.ans_mend.proofs.NamedGrowth.{GrownTo, grown_more, grown_to_nothing, grown_whole, rest_of, unread}
use Rattle.ans_mend.proofs.name_colours.growth_of.Goals as goal

pub sequences-init : goal.sequences-init
sequences-init c = grown_to_nothing c.args.content.now

pub sequences-preserved : goal.sequences-preserved
sequences-preserved c =
    let content : List ℕ = c.args.content.now in
    let read : ℕ = c.sequences.read in
    let g = c.in-Some.going in
    let first : IsNamedFirst (drop read content) g =
    subst (λ (v : List ℕ). IsNamedFirst v g) (rest_of content read) (rw c.in-Some.is at c.in-Ok.ensures.going) in
    subst (λ (v : Option Times). GrownTo content (read + g.end) v
    (c.sequences.bytes + (length g.put.now - (g.rest - g.zero)))) (sym c.once_more-times.ensures)
    (grown_more content read c.sequences.times c.sequences.bytes c.sequences.invariant g first)

pub returns-in_default-clause-none : goal.returns-in_default-clause-none
returns-in_default-clause-none c =
    let content : List ℕ = c.args.content.now in
    let read : ℕ = c.sequences.read in
    unread content read c.sequences.times c.sequences.bytes c.sequences.invariant
    (λ tokens reads. c.in_default.ensures.unread tokens
    (subst (λ (v : List ℕ). Reads v tokens) (sym (rest_of content read)) reads))

pub returns-in_default-next-clause-some : goal.returns-in_default-next-clause-some
returns-in_default-next-clause-some c =
    let content : List ℕ = c.args.content.now in
    let read : ℕ = c.sequences.read in
    grown_whole content read c.sequences.times c.sequences.bytes c.sequences.invariant _ refl refl
    (subst NoneIsNamed (rest_of content read) (rw c.in_default-next.is at c.in-Ok.ensures.going))
