use Rattle.std.proofs.Common.{◌≡◌, ℕ, ◌+◌, ◌-◌, ◌≤◌, List, ◌++◌, length, take, drop, refl, sym, ap, ◌∙◌, subst, arith}
use Rattle.std.proofs.lemmas.List.{drop-drop, length-take-le}
use Rattle.ans_model.specs.Sequence.Reads.{ReadsAs}
use Rattle.ans_players.specs.Situations.{Spelled, spelled}
use Rattle.ans_mend.specs.NamedColours.{named_content}
use Rattle.ans_mend.proofs.NamedWriting.{end_room, goes_further, same_texts, stays_whole, written_room}
use Rattle.ans_mend.proofs.name_colours.write_named.Goals as goal

pub sequences-init : goal.sequences-init
sequences-init c = record {
  same_length = refl;
  low = omega arith;
  order = c.requires.order;
  left = refl;
  written = omega arith;
  goes_on = λ tokens texts reads. record { tokens = tokens; texts = texts; reads = reads; content = refl };
}

pub naming_in-requires-clause-reads : goal.naming_in-requires-clause-reads
naming_in-requires-clause-reads c =
    let i = c.sequences.invariant in
    let r = c.requires.room in
    let h = i.goes_on r.tokens r.texts r.reads in (
      h.tokens,
      (
        h.texts,
        subst (λ (v : List ℕ). ReadsAs (take (c.args.end - c.sequences.read) v) h.tokens h.texts)
            (sym i.left) h.reads,
      ),
    )

pub write_behind-written-requires : goal.write_behind-written-requires
write_behind-written-requires c =
    let i = c.sequences.invariant in
    let r = c.requires.room in
    let h = i.goes_on r.tokens r.texts r.reads in
    let f = c.in-Some.ensures in
    let k = c.keep-written.ensures in
    let written = i.written in
    let order = i.order in
    let within = c.requires.within in
    let inside : c.sequences.written ≤ length c.sequences.memory =
    omega (arith, written, order, within, i.same_length) in
    let room = written_room c.args.memory.now c.sequences.memory c.args.end c.sequences.written c.sequences.read _ h
    c.in-Some.going f order within i.left inside r.long in
    let reached = end_room c.args.memory.now c.sequences.memory c.args.end c.sequences.written c.sequences.read _ h
    c.in-Some.going f order within i.left inside r.long in
    let count = k.count in
    let last = f.rest in
    omega (arith, room, reached, count, last, within, k.same_length, i.same_length)

pub keep-written-requires-in-Some-clause-behind : goal.keep-written-requires-in-Some-clause-behind
keep-written-requires-in-Some-clause-behind c =
    let i = c.sequences.invariant in
    let r = c.requires.room in
    let h = i.goes_on r.tokens r.texts r.reads in
    let f = c.in-Some.ensures in
    let written = i.written in
    let order = i.order in
    let within = c.requires.within in
    let inside : c.sequences.written ≤ length c.sequences.memory =
    omega (arith, written, order, within, i.same_length) in
    let room = written_room c.args.memory.now c.sequences.memory c.args.end c.sequences.written c.sequences.read _ h
    c.in-Some.going f order within i.left inside r.long in
    let first = c.keep-written.ensures.count in
    let second = c.write_behind-written.ensures.count in
    omega (arith, room, first, second)

pub sequences-preserved : goal.sequences-preserved
sequences-preserved c =
    let m0 : List ℕ = c.args.memory.now in
    let memory : List ℕ = c.sequences.memory in
    let end : ℕ = c.args.end in
    let read : ℕ = c.sequences.read in
    let i = c.sequences.invariant in
    let r = c.requires.room in
    let h = i.goes_on r.tokens r.texts r.reads in
    let g = c.in-Some.going in
    let f = c.in-Some.ensures in
    let low = i.low in
    let written = i.written in
    let order = i.order in
    let within = c.requires.within in
    let inside : c.sequences.written ≤ length memory = omega (arith, written, order, within, i.same_length) in
    let room = written_room m0 memory end c.sequences.written read _ h g f order within i.left inside r.long in
    let reached = end_room m0 memory end c.sequences.written read _ h g f order within i.left inside r.long in
    let k = c.keep-written.ensures in
    let w = c.write_behind-written.ensures in
    let l = c.keep-written-in-Some.ensures in
    let first = k.count in
    let second = w.count in
    let third = l.count in
    let last = f.rest in
    let front : c.keep-written.result ≡ c.sequences.written + g.zero = omega (arith, first) in
    record {
      same_length = l.same_length ∙ w.same_length ∙ k.same_length ∙ i.same_length;
      low = omega (arith, low);
      order = reached;
      left = l.left (read + g.end) (omega (arith, room, first, second, third, last))
          ∙ w.left (read + g.end) (omega (arith, room, first, second, last))
          ∙ k.left (read + g.end) (omega (arith, room, first, last))
          ∙ ap (λ (n : ℕ). drop n memory) (omega arith) ∙ sym (drop-drop g.end read memory) ∙ ap (drop g.end) i.left
          ∙ drop-drop g.end read m0 ∙ ap (λ (n : ℕ). drop n m0) (omega arith);
      written = omega (arith, room, first, second, third, last);
      goes_on = λ tokens texts reads.
          let same : spelled r.tokens r.texts ≡ spelled tokens texts =
          same_texts _ tokens r.tokens texts r.texts reads r.reads in
          let long : length (named_content (spelled tokens texts)) ≡ end =
          sym (ap (λ (v : List Spelled). length (named_content v)) same) ∙ r.long in
          goes_further m0 memory end c.sequences.written read _ (i.goes_on tokens texts reads) g f order within i.left
          inside long c.keep-written.new.memory c.write_behind-written.new.memory c.keep-written-in-Some.new.memory
          c.keep-written.result c.write_behind-written.result c.keep-written-in-Some.result
          (k.kept ∙ ap (λ (n : ℕ). take c.sequences.written memory ++ take n (drop read memory)) (omega arith))
          w.written
          (l.kept ∙ ap (λ (n : ℕ). take c.write_behind-written.result c.write_behind-written.new.memory
          ++ take n (drop (read + g.rest) c.write_behind-written.new.memory)) (omega arith))
          (w.left (read + g.rest) (omega (arith, room, first, second))
          ∙ k.left (read + g.rest) (omega (arith, room, first)));
    }

pub returns-clause-written : goal.returns-clause-written
returns-clause-written c tokens texts reads =
    let m0 : List ℕ = c.args.memory.now in
    let memory : List ℕ = c.sequences.memory in
    let end : ℕ = c.args.end in
    let read : ℕ = c.sequences.read in
    let i = c.sequences.invariant in
    let r = c.requires.room in
    let written = i.written in
    let order = i.order in
    let within = c.requires.within in
    let inside : c.sequences.written ≤ length memory = omega (arith, written, order, within, i.same_length) in
    let h = i.goes_on tokens texts reads in
    let same : spelled r.tokens r.texts ≡ spelled tokens texts =
    same_texts _ tokens r.tokens texts r.texts reads r.reads in
    let long : length (named_content (spelled tokens texts)) ≡ end =
    sym (ap (λ (v : List Spelled). length (named_content v)) same) ∙ r.long in
    let whole : take c.keep.result c.keep.new.memory ≡ named_content (spelled tokens texts) =
    c.keep.ensures.kept
    ∙ stays_whole m0 memory end c.sequences.written read _ h order within i.left inside long c.in_default.ensures in
    let count = c.keep.ensures.count in
    let total = ap length whole ∙ long in
    let here : c.keep.result ≡ end =
    sym (length-take-le c.keep.result c.keep.new.memory
    (omega (arith, count, written, order, within, i.same_length, c.keep.ensures.same_length))) ∙ total in
    ap (λ (n : ℕ). take n c.keep.new.memory) (sym here) ∙ whole

pub returns-clause-behind : goal.returns-clause-behind
returns-clause-behind c =
    let m0 : List ℕ = c.args.memory.now in
    let memory : List ℕ = c.sequences.memory in
    let end : ℕ = c.args.end in
    let read : ℕ = c.sequences.read in
    let i = c.sequences.invariant in
    let written = i.written in
    let order = i.order in
    let count = c.keep.ensures.count in
    c.keep.ensures.left end (omega (arith, count, written, order))
    ∙ ap (λ (n : ℕ). drop n memory) (omega (arith, order)) ∙ sym (drop-drop (end - read) read memory)
    ∙ ap (drop (end - read)) i.left ∙ drop-drop (end - read) read m0
    ∙ ap (λ (n : ℕ). drop n m0) (omega (arith, order))
