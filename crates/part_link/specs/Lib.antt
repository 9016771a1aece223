pub mod JoinCause
