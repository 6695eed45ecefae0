-- What is given, without its vector.
use Rattle.kapi_c_requests.specs.declared.answering.NumberedText.{NumberedText}
use Rattle.kapi_c_requests.specs.Given.{Given}

abbrev pub told : NumberedText → Given
told g = record { number = g.number; text = g.text.items }
