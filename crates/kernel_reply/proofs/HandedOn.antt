-- By its own text the same is said of a request as where it has kept that text.
use Rattle.std.proofs.Common.{◌≡◌, refl}
use Rattle.jupyter_msg.specs.declared.request.RequestContent.{RequestContent}
use Rattle.jupyter_msg.specs.declared.request.RequestContent.TheVariants as request
use Rattle.kernel_ask.specs.declared.answer.Content.{Content}
use Rattle.kernel_ask.specs.declared.answer.Content.TheVariants as content
use Rattle.kernel_ask.specs.declared.answer.KernelState.{KernelState}
use Rattle.kernel_ask.specs.post.PostFault.{PostFault}
use Rattle.kernel_reply.specs.Answers.{unposted_says, unposted_says_with}
use Rattle.kernel_reply.specs.Laws.{own_text, JobsSayTheSame, RefusalsSayTheSame}

pub jobs_say_the_same : JobsSayTheSame
jobs_say_the_same (request.Execute r) done = refl
jobs_say_the_same request.KernelInfo done = refl
jobs_say_the_same (request.Complete r) done = refl
jobs_say_the_same (request.Inspect r) done = refl
jobs_say_the_same (request.IsComplete r) done = refl
jobs_say_the_same (request.History r) done = refl
jobs_say_the_same (request.CommInfo r) done = refl
jobs_say_the_same request.Interrupt done = refl
jobs_say_the_same (request.Shutdown r) done = refl
jobs_say_the_same (request.CommOpen r) done = refl
jobs_say_the_same (request.CommClose r) done = refl
jobs_say_the_same (request.CommMessage r) done = refl

unposted_say_the_same : (r : RequestContent) (f : PostFault) (s : KernelState) → unposted_says_with r (own_text r) f s ≡ unposted_says r f s
unposted_say_the_same (request.Execute r) f s = refl
unposted_say_the_same request.KernelInfo f s = refl
unposted_say_the_same (request.Complete r) f s = refl
unposted_say_the_same (request.Inspect r) f s = refl
unposted_say_the_same (request.IsComplete r) f s = refl
unposted_say_the_same (request.History r) f s = refl
unposted_say_the_same (request.CommInfo r) f s = refl
unposted_say_the_same request.Interrupt f s = refl
unposted_say_the_same (request.Shutdown r) f s = refl
unposted_say_the_same (request.CommOpen r) f s = refl
unposted_say_the_same (request.CommClose r) f s = refl
unposted_say_the_same (request.CommMessage r) f s = refl

pub refusals_say_the_same : RefusalsSayTheSame
refusals_say_the_same r f (content.State s) = unposted_say_the_same r f s
refusals_say_the_same r f (content.Completion c) = refl
refusals_say_the_same r f (content.Inspection known) = refl
refusals_say_the_same r f (content.Completeness c) = refl
refusals_say_the_same r f (content.History inputs) = refl
refusals_say_the_same r f (content.IsOpen is) = refl
refusals_say_the_same r f (content.Comms ids) = refl
