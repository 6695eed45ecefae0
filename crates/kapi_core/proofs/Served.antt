-- The bytes behind the requests that were served.
use Rattle.std.proofs.Common.{◌≡◌, ℕ, zero, suc, List, ◌++◌, drop, Some, Ok, sym, ap}
use Rattle.kapi_http.proofs.Decided.{first_append}
use Rattle.kapi_http.proofs.Items.{first_fits}
use Rattle.kapi_http.specs.Cut.{first}
use Rattle.kapi_http.specs.declared.message.HttpRequest.{HttpRequest}
use Rattle.std.proofs.lemmas.List.{drop-append-le}
use Rattle.kapi_core.specs.Machine.{rest_after}
use Rattle.kapi_core.specs.Refines.{Serves}

-- the kept bytes are those behind the requests
pub serves_rest : (k : ℕ) (bytes rest : List ℕ) → Serves k bytes rest → rest_after k bytes ≡ rest
unfolding Serves rest_after
serves_rest zero bytes rest h = sym h
serves_rest (suc k) bytes rest h = rw h.1 (serves_rest k (drop h.0.length bytes) rest h.2)

-- more bytes at the end
pub serves_more : (k : ℕ) (bytes rest more : List ℕ) → Serves k bytes rest → Serves k (bytes ++ more) (rest ++ more)
unfolding Serves
serves_more zero bytes rest more h = ap (λ xs. xs ++ more) h
serves_more (suc k) bytes rest more h =
    let same : drop h.0.length (bytes ++ more) ≡ drop h.0.length bytes ++ more = drop-append-le h.0.length bytes more (first_fits bytes h.0 h.1) in
    (h.0, first_append bytes more (Ok h.0) h.1, rw same (serves_more k (drop h.0.length bytes) rest more h.2))

-- one request more was served
pub serves_next : (k : ℕ) (bytes rest : List ℕ) (request : HttpRequest) → Serves k bytes rest → first rest ≡ Some (Ok request) → Serves (suc k) bytes (drop request.length rest)
unfolding Serves
serves_next zero bytes rest request h e = (request, rw (← h) e, ap (drop request.length) h)
serves_next (suc k) bytes rest request h e = (h.0, h.1, serves_next k (drop h.0.length bytes) rest request h.2 e)
