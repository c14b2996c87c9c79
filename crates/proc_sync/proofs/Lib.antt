mod Turning
mod Growing
mod Exact
mod Counting
mod Following
mod Stepping
mod Porting
