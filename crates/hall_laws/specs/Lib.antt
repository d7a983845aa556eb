pub mod OneKernel
