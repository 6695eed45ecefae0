use Rattle.std.proofs.Common.{◌≡◌, ◌∙◌, [], List, ap, append-nil, arith, drop, map}
use Rattle.std.specs.List.{flat_map}
use Rattle.std.proofs.lemmas.List.{drop_all}
use Rattle.kapi_manifests.specs.Files.{Read, faults_read, objects_read, read_piece, readings, sum_of}
use Rattle.kapi_manifests.specs.Pieces.{piece_in}
use Rattle.kapi_manifests.specs.declared.cut.Span.{Span}
use Rattle.kapi_manifests.proofs.Taken.{all_read}
use Rattle.kapi_manifests.proofs.reading.read_objects.Goals as goal

pub returns : goal.returns
returns c =
    let read : Span → Read = λ s. read_piece (piece_in c.without_mark-text.result.now s) in
    let all : map read c.as_slice-spans.result.now ≡ readings c.args.text.now =
    all_read c.args.text.now c.without_mark-text.result.now _ _ c.as_slice-spans.ensures.value c.without_mark-text.ensures c.in_ok-spans.ensures in
    let none : drop c.loop-span.span-index c.as_slice-spans.result.now ≡ [] = drop_all c.loop-span.span-index c.as_slice-spans.result.now c.loop-span-test.false in
    let objects = rw (none, append-nil) at c.loop-span.invariant.objects in
    let later : sum_of faults_read (map read (drop c.loop-span.span-index c.as_slice-spans.result.now)) ≡ 0 = ap (λ (ss : List Span). sum_of faults_read (map read ss)) none in
    let faults : sum_of faults_read (map read c.as_slice-spans.result.now) ≡ sum_of faults_read (readings c.args.text.now) = ap (sum_of faults_read) all in
    record {
      objects = objects ∙ ap (flat_map objects_read) all;
      faults = omega (arith, later, faults, c.loop-span.invariant.faults);
    }
