-- What is asked, as a point.
use Rattle.kapi_rules.specs.declared.point.Point.{Point}
use Rattle.kapi_rules.specs.declared.point.Point.TheVariants as point
use Rattle.kapi_index.specs.declared.prepared_point.PreparedPoint.{PreparedPoint}
use Rattle.kapi_index.specs.declared.prepared_point.PreparedPoint.TheVariants.{Resource, Url}

-- the point whose words were prepared
abbrev pub point_of : PreparedPoint → Point
point_of (Resource p) = point.Resource p
point_of (Url p) = point.Url p
