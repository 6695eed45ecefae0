use Rattle.std.proofs.Common.{◌≡◌, ◌∙◌, List, ap, map, subst}
use Rattle.std.specs.List.{flat_map}
use Rattle.std.proofs.lemmas.List.{take_all}
use Rattle.kapi_manifests.specs.Files.{Read, Takes, faults_read, objects_read, read_piece, readings, sum_of}
use Rattle.kapi_manifests.specs.Pieces.{piece_in}
use Rattle.kapi_manifests.specs.declared.cut.Span.{Span}
use Rattle.kapi_manifests.proofs.Taken.{all_read, takes_next}
use Rattle.kapi_manifests.proofs.reading.take_file.Goals as goal

pub loop-span-preserved : goal.loop-span-preserved
loop-span-preserved c =
    takes_next (λ s. read_piece (piece_in c.without_mark-text.result.now s)) objects_read faults_read _ _ _ _ c.as_slice-spans.result.now c.loop-span.span-index _ c.loop-span-test.true c.loop-span.invariant c.in_ok-take_span.ensures

pub returns : goal.returns
returns c =
    let read : Span → Read = λ s. read_piece (piece_in c.without_mark-text.result.now s) in
    let all : map read c.as_slice-spans.result.now ≡ readings c.args.text.now =
    all_read c.args.text.now c.without_mark-text.result.now _ _ c.as_slice-spans.ensures.value c.without_mark-text.ensures c.in_ok-spans.ensures in
    let P : List Read → Type 0 = λ rs. Takes c.args.options c.args.sorted.now c.loop-span.sorted (flat_map objects_read rs) (sum_of faults_read rs) in
    subst P (ap (map read) (take_all c.loop-span.span-index c.as_slice-spans.result.now c.loop-span-test.false) ∙ all) c.loop-span.invariant
