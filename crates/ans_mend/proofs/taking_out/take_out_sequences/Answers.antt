use Rattle.std.proofs.Common.{◌≡◌, ◌+◌, ◌-◌, ◌≤◌, ℕ, List, [], ◌∷◌, ◌++◌, take, drop, ap, ap₂, refl, sym, ◌∙◌, subst}
use Rattle.std.proofs.Common.{subst₂}
use Rattle.std.proofs.Common.{arith, append-nil, length-append, Option, Bool}
use Rattle.std.proofs.lemmas.List.{drop-drop}
use Rattle.ans_forms.specs.declared.kinds.TheConstants.Before as before
use Rattle.ans_model.specs.Bytes.{longest_file}
use Rattle.ans_forms.specs.Unwanted.{IsNextGoing, NothingMore}
use Rattle.ans_forms.specs.declared.kinds.Before.{Before}
use Rattle.ans_forms.specs.declared.kinds.Going.{Going}
use Rattle.ans_mend.specs.TakingOut.{CountsWithin, Gone, TakesOut, gone_at, switch_of, told_with}
use Rattle.ans_mend.specs.declared.taking_out.Told.{Told}
use Rattle.ans_mend.proofs.RowEndsOut.{window}
use Rattle.ans_mend.proofs.SequencesOut.{end_within, few_gone, goes_on, kept_there, text_there, told_more}
use Rattle.ans_mend.proofs.taking_out.take_out_sequences.Goals as goal

pub count-requires : goal.count-requires
count-requires c =
    let i = c.sequences.invariant in
    let limit = c.requires.limit in
    subst (λ (told : Told). CountsWithin told longest_file) (sym i.told)
    (few_gone i.gone longest_file (omega (arith, i.few, i.within, limit)))

pub sequences-preserved : goal.sequences-preserved
sequences-preserved c =
    let m0 : List ℕ = c.args.memory.now in
    let count : ℕ = c.args.count in
    let read : ℕ = c.sequences.read in
    let memory : List ℕ = c.sequences.memory in
    let i = c.sequences.invariant in
    let going : Going = c.in-Some.going in
    let old : Before = c.sequences.before in
    let next : IsNextGoing old (take (count - read) (drop read memory)) going c.next_unwanted.new.before =
    c.in-Some.ensures.some in
    let place : ℕ = read + going.place in
    let end : ℕ = place + going.length in
    let k = c.keep-kept.ensures in
    let reached : end ≤ count =
    end_within m0 memory count read c.requires.within i.within i.same_length i.left old c.next_unwanted.new.before going
    next in
    let text : take (end - place) (drop place memory) ≡ next.text =
    text_there m0 memory count read c.requires.within i.within i.same_length i.left old c.next_unwanted.new.before going
    next in
    let kept : take c.keep-kept.result c.keep-kept.new.memory ≡ take c.sequences.kept memory ++ next.kept =
    k.kept ∙ ap (λ (v : List ℕ). take c.sequences.kept memory ++ v)
    (kept_there m0 memory count read c.requires.within i.within i.same_length i.left old c.next_unwanted.new.before
    going
    next) in
    let g : Gone = gone_at going.kind place next.text in
    let now_is = ap (λ (o : Option Bool). record c.next_unwanted.new.before { switch = o })
    (c.switch_of-before.ensures ∙ ap (switch_of c.next_unwanted.new.before.switch going.kind) text) in
    let sum = k.count in
    let order = i.order in
    let some = next.some in
    record {
      same_length = k.same_length ∙ i.same_length;
      order = omega (arith, sum, order);
      within = reached;
      left = k.left end (omega (arith, sum, order)) ∙ ap (λ (n : ℕ). drop n memory) (omega arith)
          ∙ sym (drop-drop (going.place + going.length) read memory) ∙ ap (drop (going.place + going.length)) i.left
          ∙ drop-drop (going.place + going.length) read m0 ∙ ap (λ (n : ℕ). drop n m0) (omega arith);
      gone = i.gone ++ g ∷ [];
      few = let sums = length-append i.gone (g ∷ []) in let few = i.few in omega (arith, sums, few, some);
      told = c.count.ensures
          ∙ ap₂ (λ (told : Told) (v : List ℕ). told_with told (gone_at going.kind place v)) i.told text
          ∙ told_more i.gone g;
      goes_on = goes_on m0 memory count read c.requires.within i.within i.same_length i.left old
          c.next_unwanted.new.before going next _ now_is i.gone (take count m0) before.NOTHING (take c.sequences.kept
          memory)
          (take c.keep-kept.result c.keep-kept.new.memory) kept i.goes_on;
    }

pub returns-clause-left : goal.returns-clause-left
returns-clause-left c =
    let m0 : List ℕ = c.args.memory.now in
    let count : ℕ = c.args.count in
    let read : ℕ = c.sequences.read in
    let memory : List ℕ = c.sequences.memory in
    let i = c.sequences.invariant in
    let same : take (count - read) (drop read memory) ≡ drop read (take count m0) =
    window memory m0 read count i.within c.requires.within i.left in
    let end : Before = c.next_unwanted.new.before in
    let none : NothingMore c.sequences.before (drop read (take count m0)) end =
    subst (λ (v : List ℕ). NothingMore c.sequences.before v end) same c.in_default.ensures.none in
    let all : TakesOut before.NOTHING 0 (i.gone ++ []) (take count m0)
    (take c.sequences.kept memory ++ drop read (take count m0)) end =
    i.goes_on [] (drop read (take count m0)) end (none, refl) in (
      i.gone,
      end,
      subst₂ (λ (v : List Gone) (w : List ℕ). TakesOut before.NOTHING 0 v (take count m0) w end) (append-nil i.gone)
          (sym (c.keep.ensures.kept ∙ ap (λ (v : List ℕ). take c.sequences.kept memory ++ v) same)) all,
      ap (λ (t : Told). record t { bright_backgrounds = end.bright }) i.told,
    )

pub returns-clause-behind : goal.returns-clause-behind
returns-clause-behind c =
    let m0 : List ℕ = c.args.memory.now in
    let count : ℕ = c.args.count in
    let read : ℕ = c.sequences.read in
    let i = c.sequences.invariant in
    let within = i.within in
    let k = c.keep.ensures.count in
    let order = i.order in
    c.keep.ensures.left count (omega (arith, k, order, within))
    ∙ ap (λ (n : ℕ). drop n c.sequences.memory) (omega (arith, within))
    ∙ sym (drop-drop (count - read) read c.sequences.memory)
    ∙ ap (drop (count - read)) i.left ∙ drop-drop (count - read) read m0
    ∙ ap (λ (n : ℕ). drop n m0) (omega (arith, within))
