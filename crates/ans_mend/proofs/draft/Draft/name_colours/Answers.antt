use Rattle.std.proofs.Common.{◌≡◌, ℕ, ◌-◌, ◌≤◌, ◌∙◌, length, ap, sym, refl, arith, subst}
use Rattle.std.proofs.lemmas.List.{length-take-le}
use Rattle.ans_model.specs.Bytes.{longest_file}
use Rattle.ans_mend.specs.NamedColours.{names_room}
use Rattle.ans_mend.specs.Drafts.{DraftView}
use Rattle.ans_mend.proofs.NamedFiles.{file_named, named_too_long, names_within, room_for, unread_stays}
use Rattle.ans_mend.proofs.draft.Draft.name_colours.Goals as goal

pub returns-in_default-growth_of-clause-file : goal.returns-in_default-growth_of-clause-file
returns-in_default-growth_of-clause-file c =
    unread_stays c.args.self.now.file c.in-Some.content.now
    (rw c.file.ensures at c.in-Some.ensures.some.0) (rw c.file.ensures at c.in-Some.ensures.some.1)
    c.in_default-growth_of.ensures.none

pub returns-then-growth-self-clause-too_long : goal.returns-then-growth-self-clause-too_long
returns-then-growth-self-clause-too_long c =
    let long : length c.args.self.now.file ≡ c.self.inside.used =
    ap (λ (v : DraftView). length v.file) (sym c.self.view_is)
    ∙ length-take-le c.self.inside.used c.self.inside.memory.now c.self.invariant in
    let more = c.if-growth-self.true in (
      refl,
      refl,
      named_too_long c.self.inside.memory.now c.args.self.now.file c.in-Some.content.now c.self.inside.used
          (rw c.file.ensures at c.in-Some.ensures.some.1) c.self.invariant
          (ap (λ (v : DraftView). v.file) (sym c.self.view_is)) c.in-Some-growth_of.growth
          c.in-Some-growth_of.ensures.some (rw c.file.ensures at c.in-Some.ensures.some.0) longest_file
          (omega (arith, long, more)),
    )

pub name_in-requires-clause-room : goal.name_in-requires-clause-room
name_in-requires-clause-room c =
    let room : c.args.self.now.room ≡ length c.self.inside.memory.now - c.self.inside.used =
    ap (λ (v : DraftView). v.room) (sym c.self.view_is) in
    names_within c.self.inside.memory.now c.args.self.now.file c.in-Some.content.now c.self.inside.used
    (rw c.file.ensures at c.in-Some.ensures.some.1) c.self.invariant
    (ap (λ (v : DraftView). v.file) (sym c.self.view_is)) c.in-Some-growth_of.growth c.in-Some-growth_of.ensures.some
    (rw c.file.ensures at c.in-Some.ensures.some.0)
    (subst (λ (n : ℕ). names_room c.args.self.now.file ≤ n) room c.requires.room) c.if-growth-self.false

pub name_in-requires-clause-gap : goal.name_in-requires-clause-gap
name_in-requires-clause-gap c =
    room_for c.self.inside.memory.now c.args.self.now.file c.in-Some.content.now c.self.inside.used
    (rw c.file.ensures at c.in-Some.ensures.some.1) c.self.invariant
    (ap (λ (v : DraftView). v.file) (sym c.self.view_is)) c.in-Some-growth_of.growth c.in-Some-growth_of.ensures.some

pub returns-clause-file : goal.returns-clause-file
returns-clause-file c =
    file_named c.self.inside.memory.now c.args.self.now.file c.in-Some.content.now c.self.inside.used
    (rw c.file.ensures at c.in-Some.ensures.some.1) c.self.invariant
    (ap (λ (v : DraftView). v.file) (sym c.self.view_is)) c.in-Some-growth_of.growth c.in-Some-growth_of.ensures.some
    (rw c.file.ensures at c.in-Some.ensures.some.0) _ c.name_in.ensures.named
