use Rattle.std.proofs.Common.{◌≡◌, ℤ, ℕ, List, IfOk, Result, vec_items, Vec, sym, ap, ◌∙◌, rules}
use Rattle.std.specs.declared.alloc.Global.{Global}
use Rattle.std.specs.declared.alloc.AllocError.{AllocError}
use Rattle.std.proofs.lemmas.Iterator.{IsCollectResult, items_from_collect}
use Rattle.span.specs.declared.reader.BucketReader.{BucketReader}
use Rattle.span.specs.Spans.{Spans}
use Rattle.span.specs.Reading.{read_pairs, open_refusal}
use Rattle.span.specs.Readers.{reader_pairs, Gives, Opens}
use Rattle.span.proofs.Road.{reader_road}
use Rattle.hub.specs.declared.written.Written.{Written}
use Rattle.hub.specs.Forms.{GivesBack}
use Rattle.hub.proofs.written.read_back.Goals as goal

collected : (o : Result (Vec (ℤ × ℕ) Global) AllocError) (r : BucketReader) → IsCollectResult (Gives reader_pairs) r o → IfOk o (λ v. vec_items v ≡ reader_pairs r)
collected o r h = items_from_collect o h (reader_road r)

gives_back : (w : Written) (ss : Spans) (ds : List ℤ) (v : Vec (ℤ × ℕ) Global) (r : BucketReader) → ss ≡ vec_items w.spans → ds ≡ vec_items w.deltas → Opens ss ds r → vec_items v ≡ reader_pairs r → GivesBack w v
gives_back w ss ds v r es ed o e = record {
  allowed = sym (ap (λ s. open_refusal s ds) es ∙ ap (open_refusal (vec_items w.spans)) ed) ∙ o.allowed;
  of_pairs = e ∙ o.yields ∙ ap (λ s. read_pairs s ds) es ∙ ap (read_pairs (vec_items w.spans)) ed;
}

pub returns : goal.returns
returns c =
    let o : Opens c.deref.result.now c.deref-2.result.now c.in_ok-reader.reader = search rules in
    let ran = c.collect.ensures.ran in
    let all : IfOk c.collect.result (λ v. vec_items v ≡ reader_pairs c.in_ok-reader.reader) = search (rules, collected) in
    let e : vec_items c.in_ok-collect.field-0 ≡ reader_pairs c.in_ok-reader.reader = search rules in
    gives_back c.args.written.now _ _ c.in_ok-collect.field-0 c.in_ok-reader.reader c.deref.ensures.value c.deref-2.ensures.value o e
