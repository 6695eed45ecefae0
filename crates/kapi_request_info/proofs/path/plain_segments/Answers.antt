use Rattle.kapi_request_info.proofs.Plain.{plain_pushed}
use Rattle.kapi_request_info.proofs.path.plain_segments.Goals as goal

pub loop-part-preserved : goal.loop-part-preserved
loop-part-preserved c =
    plain_pushed c.args.path.now c.loop-part.segments.items c.push.new.self.items c.loop-part.rest.now c.in-Some.part.now c.in-Some.after.now c.in_ok-plain_segment.field-0
    c.loop-part.invariant c.in-Some.ensures.split c.in-Some.ensures.joined c.in_ok-plain_segment.ensures c.in_ok-push.ensures.items
