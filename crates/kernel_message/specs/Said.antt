-- What messages say, before they are numbered, dated and addressed.
use Rattle.std.specs.Prelude.{ℕ, List, Option}
use Rattle.serde_json.specs.Data.{Data}

-- what one message says
pub record Said : Type 0 where
  pub msg_type : List ℕ
  pub content : Data

-- what is said in answer to one request: a reply, if there is one, and the broadcasts in order
pub record Says : Type 0 where
  pub reply : Option Said
  pub broadcasts : List Said
