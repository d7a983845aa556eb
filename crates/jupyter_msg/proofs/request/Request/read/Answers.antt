use Rattle.std.proofs.Common.{sym}
use Rattle.serde_json.specs.View.{view}
use Rattle.jupyter_msg.specs.Octets.{octets_of}
use Rattle.jupyter_msg.proofs.AskedLemmas.{refused_content, asked-fits}
use Rattle.jupyter_msg.proofs.request.Request.read.Goals as goal

pub returns-in_err-content-clause-refused : goal.returns-in_err-content-clause-refused
returns-in_err-content-clause-refused c =
    let opened = c.args.opened.now in
    refused_content (octets_of opened.message) (view opened.header) (view opened.content) c.in_ok-request_type.request_type c.in_err-content.field-0.0
    c.from_residual-in_err-content.result
    c.requires.header (sym c.in_ok-request_type.ensures) c.requires.content c.in_err-content.ensures c.from_residual-in_err-content.ensures.1

pub returns-clause-request : goal.returns-clause-request
returns-clause-request c =
    let opened = c.args.opened.now in
    let read = c.in_ok-content.ensures in (
      view opened.content,
      asked-fits (octets_of opened.message) (view opened.header) (view opened.content) c.in_ok-request_type.request_type _ c.requires.header
          (sym c.in_ok-request_type.ensures)
          c.requires.content read.0 read.1.0,
      read.1.1,
    )
